use Rattle.std.proofs.Common.{sym}
use Rattle.fail_stop.specs.ScriptFlights.{flight_of}
use Rattle.kernel_pair.proofs.nexts.may_note.Goals as goal

pub returns : goal.returns
returns c = c.may_note.ensures (flight_of c.args.setup.now.spec.now c.args.setup.now.script.now) c.args.p (sym c.restart_of.ensures)
