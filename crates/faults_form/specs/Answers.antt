-- The answers of the form `faults`.
use Rattle.std.specs.Prelude.{◌≡◌, ℕ, List, [], Option, unwrap_or}
use Rattle.scram_types.specs.Specification.{Parts}
use Rattle.scram_io.specs.Outside.{History}
use Rattle.coverage_check.specs.declared.shown.Shown.{Shown}
use Rattle.coverage_check.specs.Acceptance.{Accepts, first_refusal}
use Rattle.form_base.specs.declared.status.TheConstants.{ANSWERED}
use Rattle.form_base.specs.Acceptance.{acceptance_refusal}
use Rattle.form_base.specs.Answers.{Answer, Gives, WithoutFiles}
use Rattle.form_base.specs.Assurance.{OfSpecification}
use Rattle.form_base.specs.Specifications.{AsksSpecification}
use Rattle.faults_form.specs.declared.counts.FaultCount.{FaultCount}
use Rattle.faults_form.specs.declared.forms.Family.{Family}
use Rattle.faults_form.specs.Counts.{number}
use Rattle.faults_form.specs.Families.{family_text}

-- The status and the text with which `faults` answers. If `shown` is a refusal of the specification, the text is the
-- line of the refusal. If `shown` is `None`, the text consists of the lines of the scripts with `count` faults.
abbrev pub faults_answer : Parts → FaultCount → Option Shown → ℕ × List ℕ
faults_answer spec count shown = unwrap_or (acceptance_refusal spec shown) (ANSWERED, family_text spec (number count))

-- The status is 0, and the text consists of the lines of the family.
abbrev pub GivesFamily : Family → ℕ → List ℕ → Type 0
GivesFamily asked = Gives (ANSWERED, family_text asked.spec (number asked.count))

-- The answer of `faults`, given the name of a specification's file and a number of faults.
abbrev pub FaultsAnswers : List ℕ → FaultCount → Answer
FaultsAnswers specification count =
    AsksSpecification specification (λ (spec : Parts). WithoutFiles (Gives (faults_answer spec count (first_refusal spec))))

-- If `faults` ends with status 0, it has read only the file of the specification, the specification is accepted, and
-- the text consists of the lines of the specification's scripts with `count` faults.
abbrev pub AssuresFaults : List ℕ → FaultCount → History → List ℕ → Type 0
AssuresFaults specification count =
    OfSpecification specification (λ (spec : Parts) (reads : History) (text : List ℕ).
    (reads ≡ []) × Accepts spec × (text ≡ family_text spec (number count)))
