use Rattle.std.proofs.Common.{rules}
use Rattle.fail_stop.specs.ScriptFlights.{flight_of}
use Rattle.event_core.proofs.nexts.may_note.Goals as goal

pub returns : goal.returns
returns c = λ spec. c.may_note.ensures (flight_of spec c.args.script.now) c.args.p.0 (search rules)
