use Rattle.std.proofs.Common.{◌≡◌, ◌-◌, None}
use Rattle.scram_types.specs.Searches.{first_below}
use Rattle.fault_script.specs.Assumption.{outside_at}
use Rattle.fault_family.specs.Counting.{AreChangeFrameCounts}
use Rattle.fault_family.specs.Scripts.{script_in_frames}
use Rattle.fault_family.proofs.within.is_within.Given as goal

abbrev pub invariant-loop-frame : goal.invariant-loop-frame
invariant-loop-frame l = record {
  counts : AreChangeFrameCounts l.spec (script_in_frames l.script.frames l.script.faults.now) (l.frame - 1) l.counts;
  inside : first_below (outside_at l.spec (script_in_frames l.script.frames l.script.faults.now)) l.frame ≡ None;
}
