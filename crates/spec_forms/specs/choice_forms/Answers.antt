-- The answers to `choices` and `choose`.
use Rattle.std.specs.Prelude.{◌≡◌, ℕ, List, [], Option, Some, None}
use Rattle.scram_types.specs.Specification.{Parts}
use Rattle.scram_io.specs.Outside.{History}
use Rattle.coverage_check.specs.declared.shown.Shown.{Shown}
use Rattle.coverage_check.specs.Form.{state_refusal}
use Rattle.form_base.specs.declared.status.TheConstants.{ANSWERED, NOT_ACCEPTED}
use Rattle.form_base.specs.Answers.{Answer, Gives, WithoutFiles}
use Rattle.form_base.specs.Assurance.{OfSpecification}
use Rattle.form_base.specs.Lines.{shown_line}
use Rattle.form_base.specs.Specifications.{AsksSpecification}
use Rattle.spec_forms.specs.declared.choice_forms.states.StateWord.{StateWord}
use Rattle.spec_forms.specs.choice_forms.Choosing.{choose_answer}
use Rattle.spec_forms.specs.choice_forms.Tables.{choices_text}

-- The answer to `choices` about a specification. `shown` is the refusal if too many environments are in scope, and
-- `None` otherwise.
abbrev pub choices_answer : Parts → Option Shown → ℕ × List ℕ
choices_answer spec (Some shown) = (NOT_ACCEPTED, shown_line spec shown)
choices_answer spec None = (ANSWERED, choices_text spec)

-- The answer to `choices` about the specification in the file `specification`.
abbrev pub ChoicesAnswers : List ℕ → Answer
ChoicesAnswers specification = AsksSpecification specification (λ (spec : Parts). WithoutFiles (Gives (choices_answer spec (state_refusal spec))))

-- If `choices` ends with status 0, it has read only the file of the specification, and the text lists the choices of
-- the specification.
abbrev pub AssuresChoices : List ℕ → History → List ℕ → Type 0
AssuresChoices specification = OfSpecification specification (λ (spec : Parts) (reads : History) (text : List ℕ). (reads ≡ []) × (text ≡ choices_text spec))

-- The answer to `choose` about the specification in the file `specification`, with a configuration's name and the
-- words of a state.
abbrev pub ChooseAnswers : List ℕ → List ℕ → List StateWord → Answer
ChooseAnswers specification conf state = AsksSpecification specification (λ (spec : Parts). WithoutFiles (Gives (choose_answer spec conf state)))

-- If `choose` ends with status 0, it has read only the file of the specification. The specification has each name
-- that the words contain, and the text is the line of the choice.
abbrev pub AssuresChoose : List ℕ → List ℕ → List StateWord → History → List ℕ → Type 0
AssuresChoose specification conf state =
    OfSpecification specification (λ (spec : Parts) (reads : History) (text : List ℕ). (reads ≡ []) × Gives (choose_answer spec conf state) ANSWERED text)
