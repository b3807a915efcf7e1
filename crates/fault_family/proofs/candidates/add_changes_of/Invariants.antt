use Rattle.std.proofs.Common.{◌≡◌, ◌+◌, ◌++◌, length}
use Rattle.scram_types.specs.Lookups.{factor_id}
use Rattle.scram_types.specs.Searches.{listed_below}
use Rattle.fault_family.specs.declared.faults.FaultKind.TheVariants.{Change}
use Rattle.fault_family.proofs.candidates.add_changes_of.Given as goal

abbrev pub invariant-loop-value : goal.invariant-loop-value
invariant-loop-value l = record {
  kinds : l.kinds.items ≡ l.initial.kinds.items ++ listed_below (λ value. Change (factor_id l.x) value) l.value;
  count : length l.kinds.items ≡ length l.initial.kinds.items + l.value;
}
