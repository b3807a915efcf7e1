-- The text of a summary.
use Rattle.std.specs.Prelude.{ℕ, zero, suc, ◌+◌, ◌-◌, min, List, [], ◌++◌, length, slice_get, Option, None, if◌then◌else◌}
use Rattle.std.specs.Option.{option_map_or}
use Rattle.scram_types.specs.Specification.{Parts}
use Rattle.scram_types.specs.declared.rows.Report.{Report}
use Rattle.scram_types.specs.declared.rows.Row.{Row}
use Rattle.scram_types.specs.declared.specification.AppSpec.{AppSpec}
use Rattle.flight_facts.specs.Decisions.{decided_in, differ}
use Rattle.form_base.specs.Texts.{texts_below}
use Rattle.trace_forms.specs.summary_form.Lines.{app_summary_line, change_line, flight_line, reconfiguration_line, world_line}
use Rattle.scram_types.specs.Lookups.{env_in, env_before}

-- The line with the changes of the environment from the preceding row to row `k`, or the empty text if nothing
-- changed.
abbrev pub change_text : Parts → List Row → ℕ → List ℕ
change_text spec rows k = if differ spec (env_before spec rows k) (env_in rows k) then change_line spec rows k else []

-- The index of the first row after the row in which a reconfiguration is decided.
abbrev pub first_row_after_decision : List Row → Report → ℕ
first_row_after_decision rows report = decided_in rows report.begin + 1

-- The number of rows after the row in which a reconfiguration is decided, up to the end of the reconfiguration or of
-- the flight, whichever is earlier.
abbrev pub rows_after_decision : List Row → Report → ℕ
rows_after_decision rows report = min (report.end + 1) (length rows) - first_row_after_decision rows report

-- The lines with the changes of the environment in the rows after the row in which a reconfiguration is decided, up
-- to the end of the reconfiguration.
abbrev pub changes_text : Parts → List Row → Report → List ℕ
changes_text spec rows report = texts_below (λ (j : ℕ). change_text spec rows (first_row_after_decision rows report + j)) (rows_after_decision rows report)

-- The reconfiguration that precedes reconfiguration `n`, or `None` if there is none.
abbrev pub report_before : List Report → ℕ → Option Report
report_before reports zero = None
report_before reports (suc n) = slice_get reports n

-- The line of a reconfiguration, followed by the lines with the changes of the environment after the reconfiguration
-- is decided.
abbrev pub report_text : Parts → List Row → Option Report → Report → List ℕ
report_text spec rows earlier report = reconfiguration_line spec rows earlier report ++ changes_text spec rows report

-- The lines of reconfiguration `n`, or the empty text if there is no such reconfiguration.
abbrev pub reconfiguration_text : Parts → List Row → List Report → ℕ → List ℕ
reconfiguration_text spec rows reports n =
    option_map_or (λ (report : Report). report_text spec rows (report_before reports n) report) (slice_get reports n) []

-- The line of application `a`, or the empty text if there is no such application.
abbrev pub app_text : Parts → List Row → ℕ → List ℕ
app_text spec rows a = option_map_or (λ (app : AppSpec). app_summary_line rows a app) (slice_get spec.apps a) []

-- The lines of the applications and of the world.
abbrev pub totals_text : Parts → List Row → List ℕ
totals_text spec rows = texts_below (app_text spec rows) (length spec.apps) ++ world_line rows

-- The lines of a summary that follow the line of the flight.
abbrev pub text_after_flight_line : Parts → List Row → List Report → List ℕ
text_after_flight_line spec rows reports = texts_below (reconfiguration_text spec rows reports) (length reports) ++ totals_text spec rows

-- The summary of a flight.
abbrev pub summary_text : Parts → List Row → List Report → List ℕ
summary_text spec rows reports = flight_line rows reports ++ text_after_flight_line spec rows reports
