use Rattle.fail_stop.proofs.Joining.{IsPut}
use Rattle.fail_stop.proofs.drafts.put_slot.Given as goal

abbrev pub invariant-loop-i : goal.invariant-loop-i
invariant-loop-i l = IsPut l.a l.i l.area l.initial.image l.image
