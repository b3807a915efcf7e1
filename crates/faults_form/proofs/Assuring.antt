-- If `faults` answers with status 0, `AssuresFaults` holds.
use Rattle.std.proofs.Common.{◌≡◌, ℕ, List, refl}
use Rattle.std.specs.Prelude.{Option, Some, None}
use Rattle.scram_types.specs.Specification.{IsSpec, Parts}
use Rattle.coverage_check.specs.declared.shown.Shown.{Shown}
use Rattle.coverage_check.specs.Acceptance.{Accepts, first_refusal}
use Rattle.coverage_check.proofs.Accepting.{accepts_iff_unrefused}
use Rattle.form_base.specs.declared.status.TheConstants.{ANSWERED}
use Rattle.form_base.specs.Answers.{Gives}
use Rattle.form_base.specs.Assurance.{IsAssuring}
use Rattle.form_base.proofs.Assuring.{not_zero, specification_assures, text_of_gives}
use Rattle.faults_form.specs.declared.counts.FaultCount.{FaultCount}
use Rattle.faults_form.specs.Answers.{AssuresFaults, FaultsAnswers, faults_answer}
use Rattle.faults_form.specs.Counts.{number}
use Rattle.faults_form.specs.Families.{family_text}

faults_zero : (spec : Parts) (count : FaultCount) (shown : Option Shown) → IsSpec spec → first_refusal spec ≡ shown → (text : List ℕ) → Gives (faults_answer spec count shown) ANSWERED text
    → Accepts spec × (text ≡ family_text spec (number count))
faults_zero spec count (Some shown) sound is text gives = not_zero 5 _ text gives
faults_zero spec count None sound is text gives = ((accepts_iff_unrefused spec sound).accepted is, text_of_gives (family_text spec (number count)) text gives)

pub faults_assure : (specification : List ℕ) (count : FaultCount) → IsAssuring (FaultsAnswers specification count) (AssuresFaults specification count)
faults_assure specification count before after reads text is = specification_assures specification _ _
    (λ spec sound before after reads text is. let told = faults_zero spec count (first_refusal spec) sound refl text is.1 in (is.0, told.0, told.1))
    before after reads text is
