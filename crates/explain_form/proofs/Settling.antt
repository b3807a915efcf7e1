-- Lemmas that derive the answers of `explain` from the texts that are made.
use Rattle.std.proofs.Common.{◌≡◌, sym, subst}
use Rattle.std.specs.Prelude.{Option, Some, None, Result}
use Rattle.scram_types.specs.Scripts.{ScriptParts}
use Rattle.scram_types.specs.Specification.{Parts}
use Rattle.fault_script.specs.declared.assumption.Outside.{Outside}
use Rattle.fault_script.specs.Assumption.{first_outside}
use Rattle.coverage_check.specs.declared.acceptance.AcceptError.TheVariants as error
use Rattle.coverage_check.specs.declared.shown.Shown.{Shown}
use Rattle.coverage_check.specs.Answers.{IsRefusal}
use Rattle.coverage_check.specs.Acceptance.{first_refusal}
use Rattle.form_base.specs.declared.refusals.Refusal.{Refusal}
use Rattle.form_base.specs.declared.status.TheConstants.{ANSWERED, NOT_ACCEPTED, UNASSUMED_SCRIPT}
use Rattle.form_base.specs.Answers.{Gives}
use Rattle.form_base.specs.Endings.{PreparesWithoutFiles}
use Rattle.explain_form.specs.declared.explanations.Explanation.{Explanation}
use Rattle.explain_form.specs.Answers.{GivesExplanation}
use Rattle.explain_form.specs.Texts.{accepted_text, explain_answer, outside_answer, refused_text, script_answer, unassumed_text}

module _ (result : Result Explanation Refusal) where
  -- If the specification is accepted and its text was prepared, the answer to the specification is prepared.
  pub accepted_settles : (spec back : Parts) → back ≡ spec → first_refusal spec ≡ None → PreparesWithoutFiles (Gives (ANSWERED, accepted_text back)) GivesExplanation result
      → PreparesWithoutFiles (Gives (explain_answer spec (first_refusal spec))) GivesExplanation result
  accepted_settles spec back same none settles =
      subst (λ (shown : Option Shown). PreparesWithoutFiles (Gives (explain_answer spec shown)) GivesExplanation result) (sym none)
      (subst (λ (s : Parts). PreparesWithoutFiles (Gives (ANSWERED, accepted_text s)) GivesExplanation result) same settles)

  -- If the specification is not accepted and the text of its refusal was prepared, the answer to the specification is
  -- prepared.
  pub refused_settles : (spec back : Parts) (shown : Shown) → IsRefusal spec (error.NotAccepted back shown)
      → PreparesWithoutFiles (Gives (NOT_ACCEPTED, refused_text back shown)) GivesExplanation result → PreparesWithoutFiles (Gives (explain_answer spec (first_refusal spec))) GivesExplanation result
  refused_settles spec back shown is settles =
      subst (λ (o : Option Shown). PreparesWithoutFiles (Gives (explain_answer spec o)) GivesExplanation result) (sym is.1)
      (subst (λ (s : Parts). PreparesWithoutFiles (Gives (NOT_ACCEPTED, refused_text s shown)) GivesExplanation result) is.0 settles)

  -- If the specification is accepted and the answer to the script was prepared, the answer to both is prepared.
  pub both_accepted_settles : (spec back : Parts) (script : ScriptParts) → back ≡ spec → first_refusal spec ≡ None
      → PreparesWithoutFiles (Gives (outside_answer back script (first_outside back script))) GivesExplanation result
      → PreparesWithoutFiles (Gives (script_answer spec script (first_refusal spec))) GivesExplanation result
  both_accepted_settles spec back script same none settles =
      subst (λ (shown : Option Shown). PreparesWithoutFiles (Gives (script_answer spec script shown)) GivesExplanation result) (sym none)
      (subst (λ (s : Parts). PreparesWithoutFiles (Gives (outside_answer s script (first_outside s script))) GivesExplanation result) same settles)

  pub both_refused_settles : (spec back : Parts) (script : ScriptParts) (shown : Shown) → IsRefusal spec (error.NotAccepted back shown)
      → PreparesWithoutFiles (Gives (NOT_ACCEPTED, refused_text back shown)) GivesExplanation result
      → PreparesWithoutFiles (Gives (script_answer spec script (first_refusal spec))) GivesExplanation result
  both_refused_settles spec back script shown is settles =
      subst (λ (o : Option Shown). PreparesWithoutFiles (Gives (script_answer spec script o)) GivesExplanation result) (sym is.1)
      (subst (λ (s : Parts). PreparesWithoutFiles (Gives (NOT_ACCEPTED, refused_text s shown)) GivesExplanation result) is.0 settles)

  -- If the script keeps to the failure assumption and the text of the specification was prepared, the answer is
  -- prepared.
  pub assumed_settles : (spec : Parts) (script : ScriptParts) → first_outside spec script ≡ None → PreparesWithoutFiles (Gives (ANSWERED, accepted_text spec)) GivesExplanation result
      → PreparesWithoutFiles (Gives (outside_answer spec script (first_outside spec script))) GivesExplanation result
  assumed_settles spec script none settles =
      subst (λ (o : Option Outside). PreparesWithoutFiles (Gives (outside_answer spec script o)) GivesExplanation result) (sym none) settles

  -- If the script violates the failure assumption and the text of its refusal was prepared, the answer is prepared.
  pub outside_settles : (spec : Parts) (script : ScriptParts) (outside : Outside) → first_outside spec script ≡ Some outside
      → PreparesWithoutFiles (Gives (UNASSUMED_SCRIPT, unassumed_text spec script outside)) GivesExplanation result
      → PreparesWithoutFiles (Gives (outside_answer spec script (first_outside spec script))) GivesExplanation result
  outside_settles spec script outside some settles =
      subst (λ (o : Option Outside). PreparesWithoutFiles (Gives (outside_answer spec script o)) GivesExplanation result) (sym some) settles
