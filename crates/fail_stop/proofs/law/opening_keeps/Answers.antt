use Rattle.fail_stop.specs.ScriptFlights.{flight_of}
use Rattle.fail_stop.proofs.Keeps.{opens}
use Rattle.fail_stop.proofs.ScriptBorder.{script_flies}
use Rattle.fail_stop.proofs.law.opening_keeps.Goals as goal

pub returns : goal.returns
returns c = λ spec script fits. opens (flight_of spec script) (script_flies spec script fits)
