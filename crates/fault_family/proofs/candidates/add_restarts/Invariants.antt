use Rattle.std.proofs.Common.{◌≡◌, ◌+◌, ◌++◌, length}
use Rattle.scram_types.specs.Lookups.{proc_id}
use Rattle.scram_types.specs.Searches.{listed_below}
use Rattle.fault_family.specs.declared.faults.FaultKind.TheVariants.{Restart}
use Rattle.fault_family.proofs.candidates.add_restarts.Given as goal

abbrev pub invariant-loop-p : goal.invariant-loop-p
invariant-loop-p l = record {
  kinds : l.kinds.items ≡ l.initial.kinds.items ++ listed_below (λ p. Restart (proc_id p)) l.p;
  count : length l.kinds.items ≡ length l.initial.kinds.items + l.p;
}
