-- Laws of summaries: the rows of a summary, the number of reconfigurations that have begun, and the encoding.
use Rattle.std.specs.Prelude.{◌≡◌, ℕ, ◌+◌, ◌-◌, ◌<◌, ◌≤◌, ◌^◌, List, [], ◌∷◌, length}
use Rattle.scram_types.specs.Specification.{Parts}
use Rattle.scram_types.specs.declared.rows.Row.{Row}
use Rattle.coverage_check.specs.Missions.{MissionParts}
use Rattle.frame_model.specs.Readings.{reports}
use Rattle.frame_model.specs.Runs.{running}
use Rattle.telemetry_tap.specs.declared.summaries.TheConstants.{NONE_RUNNING}
use Rattle.telemetry_tap.specs.declared.summaries.Summary.{Summary}
use Rattle.telemetry_tap.specs.Summaries.{summary_begun, first_rows, running_number, summary_after, summary_up}
use Rattle.telemetry_tap.specs.Words.{FitsWord, summary_decode, summary_encode}

-- The number by which a summary names the configuration that the last row of a list runs, or `before` if the list is
-- empty. The number is `NONE_RUNNING` if the last row runs none.
abbrev pub last_running : Parts → ℕ → List Row → ℕ
last_running spec before [] = before
last_running spec before (row ∷ rows) = last_running spec (running_number (running spec row.acts)) rows

-- The set of processors that are up in the last row of a list, or `before` if the list is empty.
abbrev pub last_up : ℕ → List Row → ℕ
last_up before [] = before
last_up before (row ∷ rows) = last_up row.env.up rows

-- The summary of a list of rows that begins with the row of frame 0. `before` is the set of processors that are up if
-- the list is empty.
abbrev pub summary_of : Parts → ℕ → List Row → Summary
summary_of spec before rows =
    record { frames = length rows; running = last_running spec NONE_RUNNING rows; up = last_up before rows; begun = length (reports spec rows) }

-- The summary of a mission after `m` frames equals the summary computed from the first `m` rows of its trace.
abbrev pub SummariesTellRows : Type 0
SummariesTellRows = (mission : MissionParts) (m : ℕ) → m ≤ mission.script.frames
    → summary_after mission m ≡ summary_of mission.spec (summary_up mission 0) (first_rows mission m)

-- The number of reconfigurations that have begun never decreases, and rises by at most 1 with each frame.
abbrev pub SummariesGoOn : Type 0
SummariesGoOn = (mission : MissionParts) (m n : ℕ) → m ≤ n → n ≤ mission.script.frames
    → (summary_begun mission m ≤ summary_begun mission n) × (summary_begun mission n ≤ summary_begun mission m + (n - m))

-- Encoding and decoding are inverse, for each summary whose parts fit the word and for each word of 48 bits.
abbrev pub SummariesComeBack : Type 0
SummariesComeBack =
    ((s : Summary) → FitsWord s → summary_decode (summary_encode s) ≡ s)
    × ((word : ℕ) → word < 2 ^ 48 → summary_encode (summary_decode word) ≡ word)
