-- If `explain` answers with status 0, `AssuresExplain` or `AssuresExplainScript` holds.
use Rattle.std.proofs.Common.{◌≡◌, ℕ, List, [], ap, arith, refl}
use Rattle.std.specs.Prelude.{◌≢◌, Option, Some, None}
use Rattle.scram_types.specs.Scripts.{ScriptParts}
use Rattle.scram_types.specs.Specification.{IsSpec, Parts}
use Rattle.scram_types.specs.declared.limits.TheConstants.{MAX_SCRIPT_BYTES, MAX_SPECIFICATION_BYTES}
use Rattle.fault_script.specs.declared.assumption.Outside.{Outside}
use Rattle.fault_script.specs.Assumption.{first_outside}
use Rattle.fault_script.specs.Fits.{Fits}
use Rattle.coverage_check.specs.declared.shown.Shown.{Shown}
use Rattle.coverage_check.specs.Acceptance.{Accepts, first_refusal}
use Rattle.coverage_check.specs.Missions.{IsMission, mission_of}
use Rattle.coverage_check.proofs.Accepting.{accepts_iff_unrefused}
use Rattle.coverage_check.proofs.Flights.{is_mission}
use Rattle.document_explanations.specs.Scripts.{BreaksExplainedScript, long_explained_script}
use Rattle.document_explanations.specs.Specifications.{BreaksExplainedSpecification, long_explained_specification}
use Rattle.form_base.specs.mission_files.Documents.{SaysScript}
use Rattle.form_base.specs.declared.status.TheConstants.{ANSWERED}
use Rattle.form_base.specs.Answers.{Gives}
use Rattle.form_base.specs.Assurance.{IsAssuring, OfDocument}
use Rattle.form_base.specs.Specifications.{SaysSpecification}
use Rattle.form_base.proofs.Assuring.{document_assures, not_zero, text_of_gives}
use Rattle.scram_io.specs.Outside.{History}
use Rattle.explain_form.specs.Answers.{AssuresExplain, AssuresExplainScript, ExplainAnswers, ExplainScriptAnswers, MissionAnswers, SpecificationAnswers}
use Rattle.explain_form.specs.Texts.{accepted_text, explain_answer, outside_answer, script_answer}

explain_zero : (spec : Parts) (shown : Option Shown) → IsSpec spec → first_refusal spec ≡ shown → (text : List ℕ) → Gives (explain_answer spec shown) ANSWERED text
    → Accepts spec × (text ≡ accepted_text spec)
explain_zero spec (Some shown) sound is text gives = not_zero 5 _ text gives
explain_zero spec None sound is text gives = ((accepts_iff_unrefused spec sound).accepted is, text_of_gives (accepted_text spec) text gives)

outside_zero : (spec : Parts) (script : ScriptParts) (outside : Option Outside) → Accepts spec → Fits spec script → first_outside spec script ≡ outside → (text : List ℕ)
    → Gives (outside_answer spec script outside) ANSWERED text → IsMission (mission_of spec script) × (text ≡ accepted_text spec)
outside_zero spec script (Some outside) accepts fits is text gives = not_zero 7 _ text gives
outside_zero spec script None accepts fits is text gives = (is_mission spec script accepts fits is, text_of_gives (accepted_text spec) text gives)

script_zero : (spec : Parts) (script : ScriptParts) (shown : Option Shown) → IsSpec spec → Fits spec script → first_refusal spec ≡ shown → (text : List ℕ)
    → Gives (script_answer spec script shown) ANSWERED text → IsMission (mission_of spec script) × (text ≡ accepted_text spec)
script_zero spec script (Some shown) sound fits is text gives = not_zero 5 _ text gives
script_zero spec script None sound fits is text gives =
    outside_zero spec script (first_outside spec script) ((accepts_iff_unrefused spec sound).accepted is) fits refl text gives

no_broken_specification : (text bytes : List ℕ) → BreaksExplainedSpecification (ANSWERED, text) bytes → ANSWERED ≢ ANSWERED
no_broken_specification text bytes breaks =
    let first = ap (λ (told : ℕ × List ℕ). told.0) breaks.text in
    let broken = ap (λ (told : ℕ × List ℕ). told.0) breaks.breaks.line in
    absurd (omega (arith, first, broken))

no_broken_script : (spec : Parts) (text bytes : List ℕ) → BreaksExplainedScript spec (ANSWERED, text) bytes → ANSWERED ≢ ANSWERED
no_broken_script spec text bytes breaks =
    let first = ap (λ (told : ℕ × List ℕ). told.0) breaks.text in
    let broken = ap (λ (told : ℕ × List ℕ). told.0) breaks.breaks.line in
    absurd (omega (arith, first, broken))

pub explain_assures : (specification : List ℕ) → IsAssuring (ExplainAnswers specification) (AssuresExplain specification)
explain_assures specification before after reads text is =
    document_assures SaysSpecification BreaksExplainedSpecification MAX_SPECIFICATION_BYTES 4 (long_explained_specification).1 specification SpecificationAnswers
    (λ (spec : Parts) (reads : History) (text : List ℕ). (reads ≡ []) × Accepts spec × (text ≡ accepted_text spec))
    (λ spec bytes says before after reads text is. let told = explain_zero spec (first_refusal spec) says.sound refl text is.1 in (is.0, told.0, told.1))
    no_broken_specification before after reads text is

pub explain_script_assures : (specification script : List ℕ) → IsAssuring (ExplainScriptAnswers specification script) (AssuresExplainScript specification script)
explain_script_assures specification script before after reads text is =
    document_assures SaysSpecification BreaksExplainedSpecification MAX_SPECIFICATION_BYTES 4 (long_explained_specification).1 specification _
    (λ (spec : Parts). OfDocument (SaysScript spec) script (λ (script : ScriptParts) (reads : History) (text : List ℕ). (reads ≡ []) × IsMission (mission_of spec script) × (text ≡ accepted_text spec)))
    (λ spec bytes says. document_assures (SaysScript spec) (BreaksExplainedScript spec) MAX_SCRIPT_BYTES 6 (long_explained_script).1 script (MissionAnswers spec)
    (λ (script : ScriptParts) (reads : History) (text : List ℕ). (reads ≡ []) × IsMission (mission_of spec script) × (text ≡ accepted_text spec))
    (λ script bytes fits before after reads text is. let told = script_zero spec script (first_refusal spec) says.sound fits.fits refl text is.1 in (is.0, told.0, told.1))
    (no_broken_script spec))
    no_broken_specification before after reads text is
