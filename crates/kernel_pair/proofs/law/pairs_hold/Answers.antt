use Rattle.fail_stop.specs.ScriptFlights.{flight_of}
use Rattle.fail_stop.proofs.ScriptBorder.{script_flies}
use Rattle.kernel_pair.proofs.Holding.{holds}
use Rattle.kernel_pair.proofs.Keeping.{opens, schedule_keeps}
use Rattle.kernel_pair.proofs.law.pairs_hold.Goals as goal

pub returns : goal.returns
returns c = λ spec script facts fits halt first events state opening is.
    let flies = script_flies spec script fits in
    holds spec script fits halt state (schedule_keeps (flight_of spec script) halt first events state flies (opens (flight_of spec script) halt first flies opening) is) facts
