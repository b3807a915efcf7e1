-- Lemmas that derive the answer of a form from the schedule in a file.
use Rattle.std.proofs.Common.{◌≡◌, ℕ, List, ◌∷◌}
use Rattle.std.specs.Prelude.{Result}
use Rattle.schedule_replay.specs.declared.limits.TheConstants.{MAX_SCHEDULE_BYTES}
use Rattle.scram_types.specs.Specification.{Parts}
use Rattle.scram_io.specs.Outside.{FilesState, Rose, StaysSteady}
use Rattle.form_base.specs.declared.refusals.Refusal.{Refusal}
use Rattle.form_base.specs.declared.status.TheConstants.{UNREAD_FILE}
use Rattle.form_base.specs.Answers.{Answer}
use Rattle.form_base.specs.Endings.{Decides, Prepares}
use Rattle.form_base.specs.Loads.{HasRead, IsUnloaded}
use Rattle.form_base.specs.Refusals.{answer_of}
use Rattle.form_base.proofs.Reading.{document_reads, refused_reads}
use Rattle.flight_forms.specs.Documents.{AsksSchedule, BreaksSchedule, SaysSchedule, long_schedule}
use Rattle.bank_words.specs.declared.events.Event.{Event}

-- If the schedule was read and the answer to it was prepared, the answer to its file is prepared.
pub schedule_reads : {U : Type 0} (spec : Parts) (name : List ℕ) (names : List (List ℕ)) (Then : List Event → Answer) (Rest : U → ℕ → List ℕ → Type 0) (value : List Event) (before mid after : FilesState) (result : Result U Refusal)
    → HasRead MAX_SCHEDULE_BYTES name (SaysSchedule spec value) before mid → StaysSteady before mid name → Prepares (Then value) Rest names mid after result
    → Prepares (AsksSchedule spec name Then) Rest (name ∷ names) before after result
schedule_reads {U} spec name names Then Rest value before mid after result has steady finds =
    document_reads (SaysSchedule spec) (BreaksSchedule spec) MAX_SCHEDULE_BYTES long_schedule name names Then Rest value before mid after result has steady finds

-- If the schedule was not loaded, the refusal is the answer to its file.
pub schedule_unread : (spec : Parts) (name : List ℕ) (names : List (List ℕ)) (Then : List Event → Answer) (before after : FilesState) (refusal : Refusal)
    → IsUnloaded (BreaksSchedule spec) MAX_SCHEDULE_BYTES long_schedule name before after (answer_of refusal) → StaysSteady before after name
    → ((answer_of refusal).0 ≡ UNREAD_FILE → Rose before.faults after.faults)
    → Decides (AsksSchedule spec name Then) (name ∷ names) before after (answer_of refusal).0 (answer_of refusal).1
schedule_unread spec name names Then before after refusal is steady unread =
    refused_reads (SaysSchedule spec) (BreaksSchedule spec) MAX_SCHEDULE_BYTES long_schedule name names Then before after refusal is steady unread
