use Rattle.std.proofs.Common.{◌≡◌, ◌<◌, ◌^◌}
use Rattle.scram_types.specs.Bits.{bits_below}
use Rattle.fault_script.specs.Times.{is_up}
use Rattle.fault_family.specs.Scripts.{script_in_frames}
use Rattle.fault_family.proofs.within.up_set_at.Given as goal

abbrev pub invariant-loop-p : goal.invariant-loop-p
invariant-loop-p l = record {
  up : l.up ≡ bits_below (λ p. is_up (script_in_frames l.script.frames l.script.faults.now) p l.frame) l.p;
  few : l.up < 2 ^ l.p;
}
