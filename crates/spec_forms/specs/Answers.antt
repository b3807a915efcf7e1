-- The answers to questions about a specification.
use Rattle.std.specs.Prelude.{◌≡◌, ℕ, List, [], Option, unwrap_or}
use Rattle.scram_types.specs.Specification.{Parts}
use Rattle.scram_io.specs.Outside.{History}
use Rattle.coverage_check.specs.declared.shown.Shown.{Shown}
use Rattle.coverage_check.specs.Acceptance.{Accepts, first_refusal}
use Rattle.coverage_check.specs.Form.{state_refusal}
use Rattle.form_base.specs.declared.status.TheConstants.{ANSWERED}
use Rattle.form_base.specs.Acceptance.{acceptance_refusal}
use Rattle.form_base.specs.Answers.{Answer, Gives, WithoutFiles}
use Rattle.form_base.specs.Assurance.{OfSpecification}
use Rattle.form_base.specs.Specifications.{AsksSpecification}
use Rattle.spec_forms.specs.Bounds.{bounds_text}
use Rattle.spec_forms.specs.Lines.{accepted_line}

-- The answer to `check` about a specification. `shown` is the reason why the specification is not accepted, or `None`
-- if it is accepted.
abbrev pub check_answer : Parts → Option Shown → ℕ × List ℕ
check_answer spec shown = unwrap_or (acceptance_refusal spec shown) (ANSWERED, accepted_line spec)

-- The answer to `bounds` about a specification. `shown` is the refusal if too many environments are in scope, and
-- `None` otherwise.
abbrev pub bounds_answer : Parts → Option Shown → ℕ × List ℕ
bounds_answer spec shown = unwrap_or (acceptance_refusal spec shown) (ANSWERED, bounds_text spec)

-- The answer to `check` about the specification in the file `specification`.
abbrev pub CheckAnswers : List ℕ → Answer
CheckAnswers specification = AsksSpecification specification (λ (spec : Parts). WithoutFiles (Gives (check_answer spec (first_refusal spec))))

-- The answer to `bounds` about the specification in the file `specification`.
abbrev pub BoundsAnswers : List ℕ → Answer
BoundsAnswers specification = AsksSpecification specification (λ (spec : Parts). WithoutFiles (Gives (bounds_answer spec (state_refusal spec))))

-- If `check` ends with status 0, it has read only the file of the specification, the specification is accepted, and
-- the text is the line of an accepted specification.
abbrev pub AssuresCheck : List ℕ → History → List ℕ → Type 0
AssuresCheck specification =
    OfSpecification specification (λ (spec : Parts) (reads : History) (text : List ℕ). (reads ≡ []) × Accepts spec × (text ≡ accepted_line spec))

-- If `bounds` ends with status 0, it has read only the file of the specification, and the text lists the required
-- bounds of the specification.
abbrev pub AssuresBounds : List ℕ → History → List ℕ → Type 0
AssuresBounds specification = OfSpecification specification (λ (spec : Parts) (reads : History) (text : List ℕ). (reads ≡ []) × (text ≡ bounds_text spec))
