-- The assurance of `choices` or `choose` follows from each of its answers with status 0.
use Rattle.std.proofs.Common.{◌≡◌, ℕ, List}
use Rattle.std.specs.Prelude.{Option, Some, None}
use Rattle.scram_types.specs.Specification.{Parts}
use Rattle.coverage_check.specs.declared.shown.Shown.{Shown}
use Rattle.coverage_check.specs.Form.{state_refusal}
use Rattle.form_base.specs.declared.status.TheConstants.{ANSWERED}
use Rattle.form_base.specs.Answers.{Gives}
use Rattle.form_base.specs.Assurance.{IsAssuring}
use Rattle.form_base.proofs.Assuring.{not_zero, specification_assures, text_of_gives}
use Rattle.spec_forms.specs.choice_forms.Answers.{AssuresChoices, AssuresChoose, ChoicesAnswers, ChooseAnswers, choices_answer}
use Rattle.spec_forms.specs.declared.choice_forms.states.StateWord.{StateWord}
use Rattle.spec_forms.specs.choice_forms.Tables.{choices_text}

choices_zero : (spec : Parts) (shown : Option Shown) (text : List ℕ) → Gives (choices_answer spec shown) ANSWERED text → text ≡ choices_text spec
choices_zero spec (Some shown) text gives = not_zero 5 _ text gives
choices_zero spec None text gives = text_of_gives (choices_text spec) text gives

pub choices_assure : (specification : List ℕ) → IsAssuring (ChoicesAnswers specification) (AssuresChoices specification)
choices_assure specification before after reads text is = specification_assures specification _ _
    (λ spec sound before after reads text is. (is.0, choices_zero spec (state_refusal spec) text is.1))
    before after reads text is

pub choose_assures : (specification conf : List ℕ) (state : List StateWord) → IsAssuring (ChooseAnswers specification conf state) (AssuresChoose specification conf state)
choose_assures specification conf state before after reads text is = specification_assures specification _ _
    (λ spec sound before after reads text is. (is.0, is.1))
    before after reads text is
