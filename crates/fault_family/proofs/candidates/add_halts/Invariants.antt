use Rattle.std.proofs.Common.{◌≡◌, ◌+◌, ◌*◌, ◌++◌, length}
use Rattle.std.specs.Prelude.{flat_map}
use Rattle.fault_family.specs.NextFaults.{proc_halts, numbers_below}
use Rattle.fault_family.proofs.candidates.add_halts.Given as goal

abbrev pub invariant-loop-p : goal.invariant-loop-p
invariant-loop-p l = record {
  kinds : l.kinds.items ≡ l.initial.kinds.items ++ flat_map (proc_halts l.spec) (numbers_below l.p);
  count : length l.kinds.items ≡ length l.initial.kinds.items + 2 * l.p;
}
