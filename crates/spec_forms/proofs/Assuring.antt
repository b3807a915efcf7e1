-- If `check` answers with status 0, `AssuresCheck` holds. If `bounds` answers with status 0, `AssuresBounds` holds.
use Rattle.std.proofs.Common.{◌≡◌, ℕ, List, refl}
use Rattle.std.specs.Prelude.{Option, Some, None}
use Rattle.scram_types.specs.Specification.{IsSpec, Parts}
use Rattle.coverage_check.specs.declared.shown.Shown.{Shown}
use Rattle.coverage_check.specs.Acceptance.{Accepts, first_refusal}
use Rattle.coverage_check.specs.Form.{state_refusal}
use Rattle.coverage_check.proofs.Accepting.{accepts_iff_unrefused}
use Rattle.form_base.specs.declared.status.TheConstants.{ANSWERED}
use Rattle.form_base.specs.Answers.{Gives}
use Rattle.form_base.specs.Assurance.{IsAssuring}
use Rattle.form_base.proofs.Assuring.{not_zero, specification_assures, text_of_gives}
use Rattle.spec_forms.specs.Answers.{AssuresBounds, AssuresCheck, BoundsAnswers, CheckAnswers, bounds_answer, check_answer}
use Rattle.spec_forms.specs.Bounds.{bounds_text}
use Rattle.spec_forms.specs.Lines.{accepted_line}

check_zero : (spec : Parts) (shown : Option Shown) → IsSpec spec → first_refusal spec ≡ shown → (text : List ℕ) → Gives (check_answer spec shown) ANSWERED text
    → Accepts spec × (text ≡ accepted_line spec)
check_zero spec (Some shown) sound is text gives = not_zero 5 _ text gives
check_zero spec None sound is text gives = ((accepts_iff_unrefused spec sound).accepted is, text_of_gives (accepted_line spec) text gives)

pub check_assures : (specification : List ℕ) → IsAssuring (CheckAnswers specification) (AssuresCheck specification)
check_assures specification before after reads text is = specification_assures specification _ _
    (λ spec sound before after reads text is. let told = check_zero spec (first_refusal spec) sound refl text is.1 in (is.0, told.0, told.1))
    before after reads text is

bounds_zero : (spec : Parts) (shown : Option Shown) (text : List ℕ) → Gives (bounds_answer spec shown) ANSWERED text → text ≡ bounds_text spec
bounds_zero spec (Some shown) text gives = not_zero 5 _ text gives
bounds_zero spec None text gives = text_of_gives (bounds_text spec) text gives

pub bounds_assure : (specification : List ℕ) → IsAssuring (BoundsAnswers specification) (AssuresBounds specification)
bounds_assure specification before after reads text is = specification_assures specification _ _
    (λ spec sound before after reads text is. (is.0, bounds_zero spec (state_refusal spec) text is.1))
    before after reads text is
