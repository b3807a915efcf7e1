use Rattle.fail_stop.specs.ScriptFlights.{flight_of}
use Rattle.fail_stop.proofs.Progress.{stored_last_is}
use Rattle.fail_stop.proofs.law.banks_hold_the_last_stores.Goals as goal

pub returns : goal.returns
returns c = λ spec script p f b i. stored_last_is (flight_of spec script) p f b i
