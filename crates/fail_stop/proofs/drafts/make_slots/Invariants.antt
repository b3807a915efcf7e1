use Rattle.std.proofs.Common.{◌≡◌, length}
use Rattle.frame_model.specs.States.{ShowAlike}
use Rattle.fail_stop.specs.Drafts.{areas_shown, slot_made}
use Rattle.fail_stop.proofs.Drafting.{MadeBelow}
use Rattle.fail_stop.proofs.drafts.make_slots.Given as goal

abbrev pub invariant-loop-a : goal.invariant-loop-a
invariant-loop-a g l = record {
  long : length l.image ≡ 64;
  alike : ShowAlike l.fn.seen l.seen;
  made : MadeBelow (slot_made l.fn.setting.spec.now l.fn.setting.tasks l.fn.seen (areas_shown l.fn.setting.snap.now) l.initial.image l.fn.proc.0) l.a l.initial.image l.image;
}
