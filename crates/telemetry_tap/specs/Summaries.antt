-- The summary of a mission after some of its frames.
use Rattle.std.specs.Prelude.{ℕ, ◌==◌, ◌≡◌, zero, suc, List, length, filter, take, Option, Some, None, if◌then◌else◌, slice_get}
use Rattle.scram_types.specs.Lookups.{conf_id}
use Rattle.scram_types.specs.Specification.{Parts}
use Rattle.scram_types.specs.declared.rows.Row.{Row}
use Rattle.scram_types.specs.declared.ids.ConfId.{ConfId}
use Rattle.scram_types.specs.declared.orders.Act.{Act}
use Rattle.coverage_check.specs.Missions.{MissionParts}
use Rattle.fault_script.specs.Environments.{env_at}
use Rattle.frame_model.specs.declared.readings.Reading.{Reading}
use Rattle.frame_model.specs.declared.readings.Reading.TheVariants.{Steady, Leaving}
use Rattle.frame_model.specs.Flights.{reports_of, row_at, rows_of}
use Rattle.frame_model.specs.Laws.{begins_below}
use Rattle.frame_model.specs.Runs.{running, runs}
use Rattle.telemetry_tap.specs.declared.summaries.TheConstants.{NONE_RUNNING}
use Rattle.telemetry_tap.specs.declared.summaries.Summary.{Summary}

-- The number by which a summary names the configuration that a row runs, or `NONE_RUNNING` if the row runs none.
abbrev pub running_number : Option ConfId → ℕ
running_number None = NONE_RUNNING
running_number (Some conf) = conf.0

-- The configuration that has this number in a summary, or `None` if the number is `NONE_RUNNING`.
abbrev pub running_conf : ℕ → Option ConfId
running_conf number = if number == NONE_RUNNING then None else Some (conf_id number)

-- The number of the configuration that the last of the first `m` rows runs, or `NONE_RUNNING` if that row runs none
-- or `m` is 0.
abbrev pub summary_running : MissionParts → ℕ → ℕ
summary_running mission zero = NONE_RUNNING
summary_running mission (suc k) = running_number (running mission.spec (row_at mission.spec mission.script k).acts)

-- The processors that are up in the last of the first `m` rows, or in frame 0 if `m` is 0.
abbrev pub summary_up : MissionParts → ℕ → ℕ
summary_up mission zero = (env_at mission.spec mission.script 0).up
summary_up mission (suc k) = (row_at mission.spec mission.script k).env.up

-- The number of reconfigurations of the flight that begin in the first `m` frames.
abbrev pub summary_begun : MissionParts → ℕ → ℕ
summary_begun mission m = length (filter (begins_below m) (reports_of mission.spec mission.script))

-- The summary after the first `m` frames.
abbrev pub summary_after : MissionParts → ℕ → Summary
summary_after mission m = record { frames = m; running = summary_running mission m; up = summary_up mission m; begun = summary_begun mission m }

-- The first `m` rows of the flight.
abbrev pub first_rows : MissionParts → ℕ → List Row
first_rows mission m = take m (rows_of mission.spec mission.script)

-- The number of reconfigurations that begin with a row, which is 0 or 1, given the reading of the preceding rows.
abbrev pub begun_with : Parts → Reading → List Act → ℕ
begun_with spec (Steady c) acts = if runs spec acts c then 0 else 1
begun_with spec (Leaving c begin) acts = 0

-- The row is row `n` of the mission's flight.
abbrev pub IsRowAt : MissionParts → ℕ → Row → Type 0
IsRowAt mission n row = slice_get (rows_of mission.spec mission.script) n ≡ Some row

-- The summary of all frames of the mission.
abbrev pub whole_summary : MissionParts → Summary
whole_summary mission = summary_after mission mission.script.frames
