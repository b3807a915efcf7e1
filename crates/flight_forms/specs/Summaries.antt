-- The values of a flight's summary line that are computed from the rows and reports of the flight.
use Rattle.std.specs.Prelude.{ℕ, ◌-◌, max, List, [], ◌∷◌, Option, Some, None}
use Rattle.scram_types.specs.declared.rows.Report.{Report}
use Rattle.scram_types.specs.declared.rows.Row.{Row}
use Rattle.scram_types.specs.declared.ids.ConfId.{ConfId}
use Rattle.scram_types.specs.Specification.{Parts}
use Rattle.frame_model.specs.Runs.{running}

-- The number of frames from the start to the end of a reconfiguration, given its target. The number is 0 if the
-- target is `None`, which means that the reconfiguration is unfinished.
abbrev pub duration_to : Option ConfId → Report → ℕ
duration_to None report = 0
duration_to (Some to) report = report.end - report.begin

-- The number of frames from the start to the end of a reconfiguration, or 0 if it is unfinished.
abbrev pub duration : Report → ℕ
duration report = duration_to report.to report

-- The maximum duration of a finished reconfiguration, or 0 if none is finished.
abbrev pub longest_duration : List Report → ℕ
longest_duration [] = 0
longest_duration (report ∷ reports) = max (duration report) (longest_duration reports)

-- The optional configuration if it is not `None`, and `before` otherwise.
abbrev pub or_before : Option ConfId → ConfId → ConfId
or_before None before = before
or_before (Some c) before = c

-- The last configuration that one of the rows runs, or the given configuration if no row runs one.
abbrev pub last_run_from : Parts → ConfId → List Row → ConfId
last_run_from spec before [] = before
last_run_from spec before (row ∷ rows) = last_run_from spec (or_before (running spec row.acts) before) rows

-- The last configuration that a row runs, or the start configuration if no row runs one.
abbrev pub last_run : Parts → List Row → ConfId
last_run spec rows = last_run_from spec spec.start rows
