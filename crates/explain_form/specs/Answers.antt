-- The answers of the form `explain`.
use Rattle.std.specs.Prelude.{◌≡◌, ◌≢◌, ℕ, List, []}
use Rattle.scram_types.specs.Scripts.{ScriptParts}
use Rattle.scram_types.specs.Specification.{Parts}
use Rattle.scram_io.specs.Outside.{History}
use Rattle.coverage_check.specs.Acceptance.{Accepts, first_refusal}
use Rattle.coverage_check.specs.Missions.{IsMission, mission_of}
use Rattle.document_explanations.specs.Scripts.{AsksExplainedScript}
use Rattle.document_explanations.specs.Specifications.{AsksExplainedSpecification}
use Rattle.form_base.specs.mission_files.Documents.{SaysScript}
use Rattle.form_base.specs.declared.status.TheConstants.{UNREAD_FILE, UNWRITTEN_OUTPUT}
use Rattle.form_base.specs.Answers.{Answer, Gives, WithoutFiles}
use Rattle.form_base.specs.Assurance.{OfDocument, OfSpecification}
use Rattle.explain_form.specs.declared.explanations.Explanation.{Explanation}
use Rattle.explain_form.specs.Texts.{accepted_text, explain_answer, script_answer}

-- The answer of `explain` after a specification has been read.
abbrev pub SpecificationAnswers : Parts → Answer
SpecificationAnswers spec = WithoutFiles (Gives (explain_answer spec (first_refusal spec)))

-- The answer of `explain` after a specification and a script for it have been read.
abbrev pub MissionAnswers : Parts → ScriptParts → Answer
MissionAnswers spec script = WithoutFiles (Gives (script_answer spec script (first_refusal spec)))

-- The answer of `explain`, given the name of a specification's file.
abbrev pub ExplainAnswers : List ℕ → Answer
ExplainAnswers specification = AsksExplainedSpecification specification SpecificationAnswers

-- The answer of `explain`, given the name of a specification's file and the name of a script's file.
abbrev pub ExplainScriptAnswers : List ℕ → List ℕ → Answer
ExplainScriptAnswers specification script =
    AsksExplainedSpecification specification (λ (spec : Parts). AsksExplainedScript spec script (MissionAnswers spec))

-- The status of an explanation is neither `UNREAD_FILE` nor `UNWRITTEN_OUTPUT`.
pub record HasNoFault (explanation : Explanation) : Type 0 where
  pub read : explanation.code ≢ UNREAD_FILE
  pub written : explanation.code ≢ UNWRITTEN_OUTPUT

-- The status and the text are those of an explanation.
abbrev pub GivesExplanation : Explanation → ℕ → List ℕ → Type 0
GivesExplanation explanation = Gives (explanation.code, explanation.text.items)

-- If `explain` with a specification ends with status 0, it has read the specification's file and no other, and the
-- specification is accepted. The text is the line of the specification, followed by the lines of its idle parts.
abbrev pub AssuresExplain : List ℕ → History → List ℕ → Type 0
AssuresExplain specification =
    OfSpecification specification (λ (spec : Parts) (reads : History) (text : List ℕ). (reads ≡ []) × Accepts spec × (text ≡ accepted_text spec))

-- If `explain` with a specification and a script ends with status 0, it has read the two files and no other, and the
-- specification and the script form a mission, so the specification is accepted. The text is the line of the
-- specification, followed by the lines of its idle parts.
abbrev pub AssuresExplainScript : List ℕ → List ℕ → History → List ℕ → Type 0
AssuresExplainScript specification script =
    OfSpecification specification (λ (spec : Parts). OfDocument (SaysScript spec) script (λ (script : ScriptParts) (reads : History) (text : List ℕ).
    (reads ≡ []) × IsMission (mission_of spec script) × (text ≡ accepted_text spec)))
