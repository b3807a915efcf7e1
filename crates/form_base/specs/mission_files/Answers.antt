-- The answers of forms that read missions.
use Rattle.std.specs.Prelude.{ℕ, List}
use Rattle.scram_types.specs.Scripts.{ScriptParts}
use Rattle.scram_types.specs.Specification.{Parts}
use Rattle.coverage_check.specs.Missions.{MissionParts, mission_of}
use Rattle.form_base.specs.declared.status.TheConstants.{ANSWERED}
use Rattle.form_base.specs.Answers.{Answer, Gives, WithoutFiles}
use Rattle.form_base.specs.Specifications.{AsksSpecification}
use Rattle.form_base.specs.mission_files.Documents.{AsksScript}
use Rattle.form_base.specs.mission_files.Missions.{UnlessRefused, mission_refusal}

-- The status is 0, and the text is the value of `text` for the mission.
abbrev pub GivesFlight : (MissionParts → List ℕ) → MissionParts → ℕ → List ℕ → Type 0
GivesFlight text mission = Gives (ANSWERED, text mission)

-- The answer after a specification and a script have been read: the value of `text` for their mission, or the refusal
-- if they do not form a mission.
abbrev pub ScriptAnswers : (MissionParts → List ℕ) → Parts → ScriptParts → Answer
ScriptAnswers text spec script = WithoutFiles (UnlessRefused (mission_refusal spec script) (GivesFlight text (mission_of spec script)))

-- The answer if `specification` and `script` are the names of the files of a mission: the value of `text` for the
-- mission, or a report of why the files do not contain a mission.
abbrev pub FlightAnswers : (MissionParts → List ℕ) → List ℕ → List ℕ → Answer
FlightAnswers text specification script = AsksSpecification specification (λ (spec : Parts). AsksScript spec script (ScriptAnswers text spec))
