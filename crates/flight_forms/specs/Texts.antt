-- The texts that are printed for a flight.
use Rattle.std.specs.Prelude.{ℕ, List}
use Rattle.scram_types.specs.declared.rows.Report.{Report}
use Rattle.scram_types.specs.declared.rows.Row.{Row}
use Rattle.scram_types.specs.Specification.{Parts}
use Rattle.coverage_check.specs.Missions.{MissionParts}
use Rattle.frame_model.specs.Flights.{reports_of, rows_of}
use Rattle.telemetry_tap.specs.Summaries.{whole_summary}
use Rattle.trace_text.specs.Text.{text_of}
use Rattle.flight_forms.specs.declared.runs.FlightText.{FlightText}
use Rattle.flight_forms.specs.declared.runs.FlightText.TheVariants.{Trace, Summary}
use Rattle.flight_forms.specs.Lines.{fly_line, watch_line}

-- The text of the given kind for the rows and reports of a flight.
abbrev pub flown_text : FlightText → Parts → List Row → List Report → List ℕ
flown_text Trace spec rows reports = text_of spec rows reports
flown_text (Summary number) spec rows reports = fly_line number spec rows reports

-- The text of the given kind for the one-thread flight of a mission.
abbrev pub flight_text : FlightText → MissionParts → List ℕ
flight_text told mission = flown_text told mission.spec (rows_of mission.spec mission.script) (reports_of mission.spec mission.script)

-- The line for a watched flight, with the summary of all its frames.
abbrev pub watch_text : MissionParts → List ℕ
watch_text mission = watch_line mission.spec (whole_summary mission)
