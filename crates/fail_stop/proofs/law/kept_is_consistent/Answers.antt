use Rattle.fail_stop.specs.ScriptFlights.{flight_of}
use Rattle.fail_stop.proofs.Facts.{facts}
use Rattle.fail_stop.proofs.ScriptBorder.{script_flies}
use Rattle.fail_stop.proofs.law.kept_is_consistent.Goals as goal

pub returns : goal.returns
returns c = λ spec script fits at words kept. facts (flight_of spec script) at words (script_flies spec script fits) kept
