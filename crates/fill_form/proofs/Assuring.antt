-- If `fill` answers with status 0, `AssuresFill` holds.
use Rattle.std.proofs.Common.{◌≡◌, ℕ, List, refl}
use Rattle.std.specs.Prelude.{Option, Some, None}
use Rattle.scram_types.specs.Specification.{Parts}
use Rattle.coverage_check.specs.declared.shown.Shown.{Shown}
use Rattle.form_base.specs.declared.status.TheConstants.{ANSWERED}
use Rattle.form_base.specs.Answers.{Gives}
use Rattle.form_base.specs.Assurance.{IsAssuring}
use Rattle.form_base.proofs.Assuring.{not_zero, specification_assures, text_of_gives}
use Rattle.fill_form.specs.Answers.{AssuresFill, FillAnswers, fill_answer}
use Rattle.fill_form.specs.Filling.{filled_text}
use Rattle.fill_form.specs.Refusing.{fill_refusal}

fill_zero : (spec : Parts) (shown : Option Shown) (text : List ℕ) → Gives (fill_answer spec shown) ANSWERED text → (shown ≡ None) × (text ≡ filled_text spec)
fill_zero spec (Some shown) text gives = not_zero 5 _ text gives
fill_zero spec None text gives = (refl, text_of_gives (filled_text spec) text gives)

pub fill_assures : (specification : List ℕ) → IsAssuring (FillAnswers specification) (AssuresFill specification)
fill_assures specification before after reads text is = specification_assures specification _ _
    (λ spec sound before after reads text is. let told = fill_zero spec (fill_refusal spec) text is.1 in (is.0, told.0, told.1))
    before after reads text is
