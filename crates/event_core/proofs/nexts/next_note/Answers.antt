use Rattle.std.proofs.Common.{◌≡◌, ◌∙◌, sym, refl, true, false}
use Rattle.fail_stop.specs.Events.{may_note}
use Rattle.fail_stop.specs.ScriptFlights.{flight_of}
use Rattle.event_core.proofs.nexts.next_note.Goals as goal

pub returns-then-may_note : goal.returns-then-may_note
returns-then-may_note c = λ spec. let noted : may_note (flight_of spec c.args.script.now) c.args.p.0 c.args.frame c.args.end ≡ true = sym (c.may_note.ensures spec) ∙ c.if-may_note.true in rw noted refl

pub returns-else-may_note : goal.returns-else-may_note
returns-else-may_note c = λ spec. let noted : may_note (flight_of spec c.args.script.now) c.args.p.0 c.args.frame c.args.end ≡ false = sym (c.may_note.ensures spec) ∙ c.if-may_note.false in rw noted refl
