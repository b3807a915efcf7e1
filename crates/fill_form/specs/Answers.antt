-- The answers to `fill`.
use Rattle.std.specs.Prelude.{◌≡◌, ℕ, List, [], Option, Some, None, Vec}
use Rattle.scram_types.specs.Specification.{Parts}
use Rattle.scram_io.specs.Outside.{History}
use Rattle.coverage_check.specs.declared.shown.Shown.{Shown}
use Rattle.form_base.specs.declared.status.TheConstants.{ANSWERED, NOT_ACCEPTED}
use Rattle.form_base.specs.Answers.{Answer, Gives, WithoutFiles}
use Rattle.form_base.specs.Assurance.{OfSpecification}
use Rattle.form_base.specs.Lines.{shown_line}
use Rattle.form_base.specs.Specifications.{AsksSpecification}
use Rattle.fill_form.specs.Filling.{filled_text}
use Rattle.fill_form.specs.Refusing.{fill_refusal}

-- The answer to `fill` about a specification. `shown` is the reason why the specification is not filled in, or `None`
-- if the specification is filled in.
abbrev pub fill_answer : Parts → Option Shown → ℕ × List ℕ
fill_answer spec (Some shown) = (NOT_ACCEPTED, shown_line spec shown)
fill_answer spec None = (ANSWERED, filled_text spec)

-- The answer has status 0 and the text `printed`.
abbrev pub GivesText : {A : Type 0} → Vec ℕ A → ℕ → List ℕ → Type 0
GivesText printed = Gives (ANSWERED, printed.items)

-- The answer to `fill` about the specification in the file `specification`.
abbrev pub FillAnswers : List ℕ → Answer
FillAnswers specification = AsksSpecification specification (λ (spec : Parts). WithoutFiles (Gives (fill_answer spec (fill_refusal spec))))

-- If `fill` ends with status 0, it has read only the file of the specification, and filling in is not refused. The
-- text is the line of the filled-in specification.
abbrev pub AssuresFill : List ℕ → History → List ℕ → Type 0
AssuresFill specification =
    OfSpecification specification (λ (spec : Parts) (reads : History) (text : List ℕ). (reads ≡ []) × (fill_refusal spec ≡ None) × (text ≡ filled_text spec))
