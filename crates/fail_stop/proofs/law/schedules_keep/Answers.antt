use Rattle.fail_stop.specs.ScriptFlights.{flight_of}
use Rattle.fail_stop.specs.Kept.{Kept}
use Rattle.fail_stop.proofs.EachState.{each_state}
use Rattle.fail_stop.proofs.Facts.{facts}
use Rattle.fail_stop.proofs.ScriptBorder.{script_flies}
use Rattle.fail_stop.proofs.law.schedules_keep.Goals as goal

pub returns : goal.returns
returns c = λ spec script fits events state is.
    let kept : Kept (flight_of spec script) state.at state.words = each_state (flight_of spec script) events state (script_flies spec script fits) is in
    (kept, facts (flight_of spec script) state.at state.words (script_flies spec script fits) kept)
