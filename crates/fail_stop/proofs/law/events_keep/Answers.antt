use Rattle.fail_stop.specs.ScriptFlights.{flight_of}
use Rattle.fail_stop.proofs.Keeps.{keeps}
use Rattle.fail_stop.proofs.ScriptBorder.{script_flies}
use Rattle.fail_stop.proofs.law.events_keep.Goals as goal

pub returns : goal.returns
returns c = λ spec script fits at words event at_after words_after kept next happens.
    keeps (flight_of spec script) at words at_after words_after (script_flies spec script fits) kept event next happens
