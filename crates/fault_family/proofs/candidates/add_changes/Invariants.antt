use Rattle.std.proofs.Common.{◌≡◌, ◌*◌, ◌≤◌, length}
use Rattle.std.specs.Prelude.{flat_map}
use Rattle.fault_family.specs.NextFaults.{factor_changes, numbers_below}
use Rattle.fault_family.proofs.candidates.add_changes.Given as goal

abbrev pub invariant-loop-x : goal.invariant-loop-x
invariant-loop-x l = record {
  kinds : l.kinds.items ≡ flat_map (factor_changes l.spec) (numbers_below l.x);
  few : length l.kinds.items ≤ 4 * l.x;
}
