-- The lines that are printed for a flight.
use Rattle.std.specs.Prelude.{ℕ, List, ◌++◌, codes, decimal}
use Rattle.scram_types.specs.Lookups.{conf_name}
use Rattle.scram_types.specs.Specification.{Parts}
use Rattle.scram_types.specs.declared.rows.Report.{Report}
use Rattle.scram_types.specs.declared.rows.Row.{Row}
use Rattle.trace_text.specs.Names.{conf_or_dash}
use Rattle.trace_text.specs.Text.{up_text}
use Rattle.telemetry_tap.specs.declared.summaries.Summary.{Summary}
use Rattle.telemetry_tap.specs.Summaries.{running_conf}
use Rattle.form_base.specs.Lines.{counts_text}
use Rattle.flight_forms.specs.Summaries.{last_run, longest_duration}

-- The line that `fly` prints for the flight of the mission generated from `number`. It has the number of frames, the
-- number of reconfigurations, the duration in frames of the longest finished reconfiguration, and the last
-- configuration that was run.
abbrev pub fly_line : ℕ → Parts → List Row → List Report → List ℕ
fly_line number spec rows reports =
    codes "fly " ++ decimal number ++ counts_text rows reports ++ codes " longest " ++ decimal (longest_duration reports)
    ++ codes " final " ++ conf_name spec (last_run spec rows).0 ++ codes "\n"

-- The line for a watched flight. It has four values of a summary: the number of frames, the configuration that the
-- last row runs, the processors that are up in that row, and the number of reconfigurations begun.
abbrev pub watch_line : Parts → Summary → List ℕ
watch_line spec summary =
    codes "watch frames " ++ decimal summary.frames ++ codes " running " ++ conf_or_dash spec (running_conf summary.running)
    ++ codes " up " ++ up_text spec summary.up
    ++ codes " begun " ++ decimal summary.begun ++ codes "\n"
