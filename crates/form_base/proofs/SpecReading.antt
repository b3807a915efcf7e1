-- Lemmas on the answer of a form, given the specification in a file.
use Rattle.std.proofs.Common.{◌≡◌, ℕ, List, ◌∷◌}
use Rattle.std.specs.Prelude.{Result}
use Rattle.scram_types.specs.Specification.{Parts}
use Rattle.scram_types.specs.declared.limits.TheConstants.{MAX_SPECIFICATION_BYTES}
use Rattle.scram_io.specs.Outside.{FilesState, Rose, StaysSteady}
use Rattle.form_base.specs.declared.refusals.Refusal.{Refusal}
use Rattle.form_base.specs.declared.status.TheConstants.{UNREAD_FILE}
use Rattle.form_base.specs.Answers.{Answer}
use Rattle.form_base.specs.Endings.{Decides, Prepares}
use Rattle.form_base.specs.Loads.{HasRead, IsUnloaded}
use Rattle.form_base.specs.Refusals.{answer_of}
use Rattle.form_base.specs.Specifications.{AsksSpecification, BreaksSpecification, SaysSpecification, long_specification}
use Rattle.form_base.proofs.Reading.{document_reads, refused_reads}

-- If the specification was read and the answer to it was prepared, the answer to its file is prepared.
pub specification_reads : {U : Type 0} (name : List ℕ) (names : List (List ℕ)) (Then : Parts → Answer) (Rest : U → ℕ → List ℕ → Type 0) (spec : Parts) (before mid after : FilesState) (result : Result U Refusal)
    → HasRead MAX_SPECIFICATION_BYTES name (SaysSpecification spec) before mid → StaysSteady before mid name → Prepares (Then spec) Rest names mid after result
    → Prepares (AsksSpecification name Then) Rest (name ∷ names) before after result
specification_reads {U} name names Then Rest spec before mid after result has steady finds =
    document_reads SaysSpecification BreaksSpecification MAX_SPECIFICATION_BYTES long_specification name names Then Rest spec before mid after result has steady finds

-- If the specification was not loaded, the refusal is the answer to its file.
pub specification_unread : (name : List ℕ) (names : List (List ℕ)) (Then : Parts → Answer) (before after : FilesState) (refusal : Refusal)
    → IsUnloaded BreaksSpecification MAX_SPECIFICATION_BYTES long_specification name before after (answer_of refusal) → StaysSteady before after name
    → ((answer_of refusal).0 ≡ UNREAD_FILE → Rose before.faults after.faults)
    → Decides (AsksSpecification name Then) (name ∷ names) before after (answer_of refusal).0 (answer_of refusal).1
specification_unread name names Then before after refusal is steady unread =
    refused_reads SaysSpecification BreaksSpecification MAX_SPECIFICATION_BYTES long_specification name names Then before after refusal is steady unread
