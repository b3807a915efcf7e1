use Rattle.std.proofs.Common.{◌≡◌, ◌≤◌}
use Rattle.fault_script.specs.Assumption.{down_below}
use Rattle.fault_script.proofs.assumption.count_down.Given as goal

abbrev pub invariant-loop-p : goal.invariant-loop-p
invariant-loop-p l = record {
  counted : l.down ≡ down_below l.script l.frame l.p;
  most : l.down ≤ l.p;
}
