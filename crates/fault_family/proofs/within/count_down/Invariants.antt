use Rattle.std.proofs.Common.{◌≡◌, ◌≤◌}
use Rattle.fault_script.specs.Assumption.{down_below}
use Rattle.fault_family.specs.Scripts.{script_in_frames}
use Rattle.fault_family.proofs.within.count_down.Given as goal

abbrev pub invariant-loop-p : goal.invariant-loop-p
invariant-loop-p l = record {
  counted : l.down ≡ down_below (script_in_frames l.script.frames l.script.faults.now) l.frame l.p;
  most : l.down ≤ l.p;
}
