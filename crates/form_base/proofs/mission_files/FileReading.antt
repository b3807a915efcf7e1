-- Lemmas that derive the answer of a form from the script in a file.
use Rattle.std.proofs.Common.{◌≡◌, ℕ, List, ◌∷◌}
use Rattle.std.specs.Prelude.{Result}
use Rattle.scram_types.specs.declared.limits.TheConstants.{MAX_SCRIPT_BYTES}
use Rattle.scram_types.specs.Scripts.{ScriptParts}
use Rattle.scram_types.specs.Specification.{Parts}
use Rattle.scram_io.specs.Outside.{FilesState, Rose, StaysSteady}
use Rattle.form_base.specs.declared.refusals.Refusal.{Refusal}
use Rattle.form_base.specs.declared.status.TheConstants.{UNREAD_FILE}
use Rattle.form_base.specs.Answers.{Answer}
use Rattle.form_base.specs.Endings.{Decides, Prepares}
use Rattle.form_base.specs.Loads.{HasRead, IsUnloaded}
use Rattle.form_base.specs.Refusals.{answer_of}
use Rattle.form_base.proofs.Reading.{document_reads, refused_reads}
use Rattle.form_base.specs.mission_files.Documents.{AsksScript, BreaksScript, SaysScript, long_script}

-- If the script was read and the answer to it was prepared, the answer to its file is prepared.
pub script_reads : {U : Type 0} (spec : Parts) (name : List ℕ) (names : List (List ℕ)) (Then : ScriptParts → Answer) (Rest : U → ℕ → List ℕ → Type 0) (value : ScriptParts) (before mid after : FilesState) (result : Result U Refusal)
    → HasRead MAX_SCRIPT_BYTES name (SaysScript spec value) before mid → StaysSteady before mid name → Prepares (Then value) Rest names mid after result
    → Prepares (AsksScript spec name Then) Rest (name ∷ names) before after result
script_reads {U} spec name names Then Rest value before mid after result has steady finds =
    document_reads (SaysScript spec) (BreaksScript spec) MAX_SCRIPT_BYTES long_script name names Then Rest value before mid after result has steady finds

-- If the script was not loaded, the refusal is the answer to its file.
pub script_unread : (spec : Parts) (name : List ℕ) (names : List (List ℕ)) (Then : ScriptParts → Answer) (before after : FilesState) (refusal : Refusal)
    → IsUnloaded (BreaksScript spec) MAX_SCRIPT_BYTES long_script name before after (answer_of refusal) → StaysSteady before after name
    → ((answer_of refusal).0 ≡ UNREAD_FILE → Rose before.faults after.faults)
    → Decides (AsksScript spec name Then) (name ∷ names) before after (answer_of refusal).0 (answer_of refusal).1
script_unread spec name names Then before after refusal is steady unread =
    refused_reads (SaysScript spec) (BreaksScript spec) MAX_SCRIPT_BYTES long_script name names Then before after refusal is steady unread
