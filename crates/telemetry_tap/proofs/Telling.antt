-- A summary after `m` frames is the summary of the first `m` rows.
use Rattle.std.proofs.Common.{◌≡◌, ◌∙◌, ℕ, zero, suc, ◌+◌, ◌≤◌, ap, sym, refl, arith, List, [], ◌∷◌, ◌++◌}
use Rattle.std.specs.Prelude.{Some, slice_get}
use Rattle.scram_types.specs.Searches.{listed_below}
use Rattle.scram_types.specs.Specification.{Parts}
use Rattle.scram_types.specs.declared.rows.Row.{Row}
use Rattle.scram_types.proofs.Searches.{length_listed}
use Rattle.coverage_check.specs.Missions.{MissionParts}
use Rattle.frame_model.specs.declared.readings.Reading.{Reading}
use Rattle.frame_model.specs.Flights.{row_at, rows_of}
use Rattle.frame_model.specs.Laws.{BeginningsAreRead}
use Rattle.frame_model.specs.Readings.{read_row, reading_of}
use Rattle.frame_model.specs.Runs.{running}
use Rattle.telemetry_tap.specs.Laws.{SummariesTellRows, last_running, last_up, summary_of}
use Rattle.telemetry_tap.specs.declared.summaries.TheConstants.{NONE_RUNNING}
use Rattle.telemetry_tap.specs.declared.summaries.Summary.{Summary}
use Rattle.telemetry_tap.specs.Summaries.{summary_begun, begun_with, first_rows, summary_running, running_number, summary_after, summary_up}
use Rattle.telemetry_tap.proofs.Begun.{begun_as_read, begun_next, first_listed, reading_next, row_is, within}

-- `last_running` and `last_up` of a list depend only on the last row of the list.
running_last : (spec : Parts) (before : ℕ) (rows : List Row) (row : Row) → last_running spec before (rows ++ row ∷ []) ≡ running_number (running spec row.acts)
running_last spec before [] row = refl
running_last spec before (x ∷ xs) row = running_last spec (running_number (running spec x.acts)) xs row

up_last : (before : ℕ) (rows : List Row) (row : Row) → last_up before (rows ++ row ∷ []) ≡ row.env.up
up_last before [] row = refl
up_last before (x ∷ xs) row = up_last x.env.up xs row

running_told : (mission : MissionParts) (m : ℕ) → summary_running mission m ≡ last_running mission.spec NONE_RUNNING (listed_below (row_at mission.spec mission.script) m)
running_told mission zero = refl
running_told mission (suc k) = sym (running_last mission.spec NONE_RUNNING (listed_below (row_at mission.spec mission.script) k) (row_at mission.spec mission.script k))

up_told : (mission : MissionParts) (m : ℕ) → summary_up mission m ≡ last_up (summary_up mission 0) (listed_below (row_at mission.spec mission.script) m)
up_told mission zero = refl
up_told mission (suc k) = sym (up_last (summary_up mission 0) (listed_below (row_at mission.spec mission.script) k) (row_at mission.spec mission.script k))

pub summaries_tell_rows : BeginningsAreRead → SummariesTellRows
summaries_tell_rows law mission m le =
    let rows : ◌≡◌ {A = Summary} (summary_after mission m) (summary_of mission.spec (summary_up mission 0) (listed_below (row_at mission.spec mission.script) m)) =
    let one = sym (length_listed (row_at mission.spec mission.script) m) in
    let two = running_told mission m in
    let three = up_told mission m in
    let four = begun_as_read law mission m le ∙ ap (λ (list : List Row). (summary_of mission.spec 0 list).begun) (first_listed mission m le) in
    λ i. record { frames = one i; running = two i; up = three i; begun = four i } in
    rows ∙ ap (summary_of mission.spec (summary_up mission 0)) (sym (first_listed mission m le))

-- The summary after one more row has that row's configuration and processors, and counts the reconfiguration that
-- begins with that row, if any.
pub summary_next : BeginningsAreRead → (mission : MissionParts) (m : ℕ) (row : Row) (begun : ℕ) (reading : Reading) → slice_get (rows_of mission.spec mission.script) m ≡ Some row
    → begun ≡ summary_begun mission m → reading ≡ reading_of mission.spec (first_rows mission m)
    → ◌≡◌ {A = Summary} (record { frames = m + 1; running = running_number (running mission.spec row.acts); up = row.env.up; begun = begun + begun_with mission.spec reading row.acts })
    (summary_after mission (suc m))
summary_next law mission m row begun reading there b r =
    let is = row_is mission m row there in
    let low : suc m ≤ mission.script.frames = (let w = within mission m row there in omega (arith, w)) in
    let one : m + 1 ≡ suc m = omega arith in
    let two : running_number (running mission.spec row.acts) ≡ summary_running mission (suc m) = ap (λ (row : Row). running_number (running mission.spec row.acts)) is in
    let three : row.env.up ≡ summary_up mission (suc m) = ap (λ (row : Row). row.env.up) is in
    let four : begun + begun_with mission.spec reading row.acts ≡ summary_begun mission (suc m) =
    ap (λ n. n + begun_with mission.spec reading row.acts) b ∙ ap (λ read. summary_begun mission m + begun_with mission.spec read row.acts) r
    ∙ ap (λ (row : Row). summary_begun mission m + begun_with mission.spec (reading_of mission.spec (first_rows mission m)) row.acts) is ∙ sym (begun_next law mission m low) in
    λ i. record { frames = one i; running = two i; up = three i; begun = four i }

pub reading_after_row : (mission : MissionParts) (m : ℕ) (row : Row) (reading next : Reading) → slice_get (rows_of mission.spec mission.script) m ≡ Some row
    → reading ≡ reading_of mission.spec (first_rows mission m) → next ≡ read_row mission.spec reading m row.acts → next ≡ reading_of mission.spec (first_rows mission (m + 1))
reading_after_row mission m row reading next there r is =
    let one : suc m ≡ m + 1 = omega arith in
    let low : suc m ≤ mission.script.frames = (let w = within mission m row there in omega (arith, w)) in
    is ∙ ap (λ read. read_row mission.spec read m row.acts) r
    ∙ ap (λ (row : Row). read_row mission.spec (reading_of mission.spec (first_rows mission m)) m row.acts) (row_is mission m row there)
    ∙ sym (reading_next mission m low) ∙ ap (λ k. reading_of mission.spec (first_rows mission k)) one
