-- Theorems on missions. A mission is an accepted specification and a script that fits the specification and keeps to
-- its failure assumption.
use Rattle.std.specs.Prelude.{◌≡◌, ℕ, suc, ◌+◌, ◌-◌, ◌*◌, ◌≤◌, true, length, Option}
use Rattle.scram_types.specs.declared.ids.ConfId.{ConfId}
use Rattle.scram_types.specs.declared.orders.KMode.{KMode}
use Rattle.scram_types.specs.declared.orders.KMode.TheVariants.{Stable, Moving}
use Rattle.scram_types.specs.declared.specification.Policy.TheVariants.{Retarget}
use Rattle.scram_types.specs.Scripts.{ScriptParts}
use Rattle.scram_types.specs.Specification.{IsSpec, Parts}
use Rattle.scram_types.specs.Searches.{listed_below}
use Rattle.choice_table.specs.Choices.{choose, is_runnable}
use Rattle.dep_order.specs.Timetables.{halting_time, initialising_time, preparing_time}
use Rattle.fault_script.specs.Assumption.{changes_upto}
use Rattle.fault_script.specs.Environments.{env_at}
use Rattle.coverage_check.specs.Missions.{IsMission, MissionParts, mission_of}
use Rattle.coverage_check.specs.Timing.{further, slowest}
use Rattle.frame_model.specs.declared.readings.Reading.{Reading}
use Rattle.frame_model.specs.declared.readings.Reading.TheVariants.{Steady, Leaving}
use Rattle.frame_model.specs.Flights.{decided, reports_of, row_at, rows_of}
use Rattle.frame_model.specs.Phases.{halting_frames}
use Rattle.frame_model.specs.Readings.{reading_of}
use Rattle.trace_props.specs.Properties.{HoldsAll}
use Rattle.scram_types.specs.declared.rows.Flown.{Flown}

-- All six properties hold for a mission's rows and reports.
abbrev pub ReconfigurationsAreAssured : Type 0
ReconfigurationsAreAssured = (spec : Parts) (script : ScriptParts) → IsSpec spec → IsMission (mission_of spec script)
    → HoldsAll spec (rows_of spec script) (reports_of spec script)

-- The begin of the reconfiguration to which frame `f` belongs, given the reading of the rows before `f`. The value is
-- `f` if no reconfiguration is under way in that frame.
abbrev pub begin_in : Reading → ℕ → ℕ
begin_in (Steady c) f = f
begin_in (Leaving c begin) f = begin

-- The begin of the reconfiguration to which frame `f` of a mission belongs, or `f` if no reconfiguration is under way
-- in that frame.
abbrev pub begin_at : Parts → ScriptParts → ℕ → ℕ
begin_at spec script f = begin_in (reading_of spec (listed_below (row_at spec script) f)) f

-- The first moving frame of a reconfiguration, given its begin and the mode in the frame of the begin. The value is
-- the begin if the mode is a moving one, or else the frame after the begin.
abbrev pub first_moving_in : KMode → ℕ → ℕ
first_moving_in (Stable c) begin = suc begin
first_moving_in (Moving from halting to since) begin = begin

-- The first moving frame of the reconfiguration to which frame `f` of a mission belongs.
abbrev pub first_moving : Parts → ScriptParts → ℕ → ℕ
first_moving spec script f = first_moving_in (decided spec script (begin_at spec script f)) (begin_at spec script f)

-- The number of change frames after the first moving frame, up to and including frame `f`.
abbrev pub changes_since : Parts → ScriptParts → ℕ → ℕ
changes_since spec script f = changes_upto spec script f - changes_upto spec script (first_moving spec script f)

-- A property holds for each moving frame of a mission, including the frame after the last row.
abbrev pub InMovingFrames : (Parts → ScriptParts → ℕ → ConfId → Option ConfId → ConfId → ℕ → Type 0) → Type 0
InMovingFrames Fact = (spec : Parts) (script : ScriptParts) → IsSpec spec → IsMission (mission_of spec script)
    → (f : ℕ) (from : ConfId) (halting : Option ConfId) (to : ConfId) (since : ℕ) → f ≤ script.frames → decided spec script f ≡ Moving from halting to since
    → Fact spec script f from halting to since

-- The target can run, and was chosen from the source in an environment seen since the first moving frame. Under
-- `Retarget` the target was chosen in the environment of frame `f`.
pub record IsTargetChosen (spec : Parts) (script : ScriptParts) (f : ℕ) (from : ConfId) (halting : Option ConfId) (to : ConfId) (since : ℕ) : Type 0 where
  pub can_run : is_runnable spec to (env_at spec script f) ≡ true
  pub chosen_at : ℕ
  pub chosen_from : first_moving spec script f ≤ chosen_at
  pub chosen_to : chosen_at ≤ f
  pub chosen : choose spec from (env_at spec script chosen_at) ≡ to
  pub anew : spec.policy ≡ Retarget → choose spec from (env_at spec script f) ≡ to

-- Each moving frame of a mission satisfies `IsTargetChosen`.
abbrev pub TargetsAreChosen : Type 0
TargetsAreChosen = InMovingFrames IsTargetChosen

-- The halting phase ends in time. It ends at most `halting_time` frames after the first moving frame, plus `slowest`
-- frames for each further change of the environment.
abbrev pub HaltsInTime : Parts → ScriptParts → ℕ → ConfId → Option ConfId → ConfId → ℕ → Type 0
HaltsInTime spec script f from halting to since =
    since + halting_frames spec halting ≤ first_moving spec script f + halting_time spec from + changes_since spec script f * slowest spec

-- In each moving frame of a mission the halting phase ends in time.
abbrev pub HaltingEndsInTime : Type 0
HaltingEndsInTime = InMovingFrames HaltsInTime

-- Frame `f` is no later than the frame in which the phases are past.
abbrev pub SettlesInTime : Parts → ScriptParts → ℕ → ConfId → Option ConfId → ConfId → ℕ → Type 0
SettlesInTime spec script f from halting to since = f ≤ since + halting_frames spec halting + preparing_time spec to + initialising_time spec to

-- Each moving frame of a mission satisfies `SettlesInTime`.
abbrev pub PhasesArePastInTime : Type 0
PhasesArePastInTime = InMovingFrames SettlesInTime

-- The number of change frames after the first moving frame is at most `further`, the number for which the bounds
-- allow.
abbrev pub SeesFewChanges : Parts → ScriptParts → ℕ → ConfId → Option ConfId → ConfId → ℕ → Type 0
SeesFewChanges spec script f from halting to since = changes_since spec script f ≤ further spec.policy spec.changes

-- Each moving frame of a mission satisfies `SeesFewChanges`.
abbrev pub FurtherChangesAreFew : Type 0
FurtherChangesAreFew = InMovingFrames SeesFewChanges

-- The finished flight has the rows and the reports of the mission, for which all properties hold. The flight has a
-- row for each frame. The number of its reports is at most the number of its rows.
pub record IsTraceOf (mission : MissionParts) (flown : Flown) : Type 0 where
  pub rows : flown.rows ≡ rows_of mission.spec mission.script
  pub reports : flown.reports ≡ reports_of mission.spec mission.script
  pub assured : HoldsAll mission.spec flown.rows flown.reports
  pub count : length flown.rows ≡ mission.script.frames
  pub few : length flown.reports ≤ length flown.rows
