use Rattle.fail_stop.specs.ScriptFlights.{flight_of}
use Rattle.fail_stop.proofs.Progress.{progress}
use Rattle.fail_stop.proofs.ScriptBorder.{restarts_within, script_flies}
use Rattle.fail_stop.proofs.law.machine_goes_on.Goals as goal

pub returns : goal.returns
returns c = λ spec script fits at words kept. progress (flight_of spec script) at words (script_flies spec script fits) (restarts_within spec script fits) kept
