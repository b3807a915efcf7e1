use Rattle.std.proofs.Common.{arith}
use Rattle.fail_stop.specs.ScriptFlights.{flight_of}
use Rattle.fail_stop.proofs.ListLaw.{list_keeps}
use Rattle.fail_stop.proofs.ScriptBorder.{script_flies}
use Rattle.fail_stop.proofs.law.events_keep_lists.Goals as goal

pub returns : goal.returns
returns c = λ spec script is fits at list event at_after long kept next moves.
    list_keeps (flight_of spec script) at list event at_after (script_flies spec script fits)
    (record { procs = is.procs_count.few; width = omega (arith, is.apps_count.few); long = long }) kept next moves
