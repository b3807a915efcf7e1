-- A mission with the schedule by which the mission is flown.
use Rattle.std.specs.Prelude.{◌≡◌, ◌≢◌, ◌⊎◌, ℕ, List, Some, None, Result, Ok, Err}
use Rattle.scram_types.specs.Scripts.{ScriptParts}
use Rattle.scram_types.specs.Specification.{Parts}
use Rattle.coverage_check.specs.Missions.{mission_of}
use Rattle.bank_words.specs.declared.events.Event.{Event}
use Rattle.form_base.specs.declared.refusals.Refusal.{Refusal}
use Rattle.form_base.specs.declared.status.TheConstants.{UNREAD_FILE}
use Rattle.form_base.specs.Loads.{IsOutOfMemory}
use Rattle.form_base.specs.Refusals.{answer_of}
use Rattle.flight_forms.specs.declared.replays.Replay.{Replay}
use Rattle.flight_forms.specs.Answers.{IsReplayAnswer}
use Rattle.form_base.specs.mission_files.Missions.{mission_refusal}

-- The status and the text are those of a replay of the mission by its list of events.
abbrev pub GivesReplay : Replay → ℕ → List ℕ → Type 0
GivesReplay replay = IsReplayAnswer replay.mission.spec replay.mission.script replay.list

-- The result is a mission with the list by which the mission is flown, the mission's refusal, or the out-of-memory
-- refusal. The status of a refusal is not `UNREAD_FILE`.
abbrev pub MakesReplay : Parts → ScriptParts → List Event → Result Replay Refusal → Type 0
MakesReplay spec script list (Ok replay) = (replay.mission ≡ mission_of spec script) × (replay.list ≡ list) × (mission_refusal spec script ≡ None)
MakesReplay spec script list (Err refusal) =
    ((mission_refusal spec script ≡ Some (answer_of refusal)) ⊎ IsOutOfMemory (answer_of refusal)) × ((answer_of refusal).0 ≢ UNREAD_FILE)
