-- Lemmas on the answer of a form, given the trace in a file.
use Rattle.std.proofs.Common.{◌≡◌, ℕ, List, ◌∷◌}
use Rattle.std.specs.Prelude.{Result}
use Rattle.scram_types.specs.declared.rows.Flown.{Flown}
use Rattle.scram_types.specs.declared.limits.TheConstants.{MAX_TRACE_BYTES}
use Rattle.scram_types.specs.Specification.{Parts}
use Rattle.scram_io.specs.Outside.{FilesState, Rose, StaysSteady}
use Rattle.form_base.specs.declared.refusals.Refusal.{Refusal}
use Rattle.form_base.specs.declared.status.TheConstants.{UNREAD_FILE}
use Rattle.form_base.specs.Answers.{Answer}
use Rattle.form_base.specs.Endings.{Decides, Prepares}
use Rattle.form_base.specs.Loads.{HasRead, IsUnloaded}
use Rattle.form_base.specs.Refusals.{answer_of}
use Rattle.form_base.proofs.Reading.{document_reads, refused_reads}
use Rattle.form_base.specs.trace_files.Traces.{AsksTrace, BreaksTrace, SaysTrace, long_trace}

-- If the trace was read from a file, and the answer to the trace is prepared, the answer to the file is prepared.
pub trace_reads : {U : Type 0} (spec : Parts) (name : List ℕ) (names : List (List ℕ)) (Then : Flown → Answer) (Rest : U → ℕ → List ℕ → Type 0) (value : Flown) (before mid after : FilesState) (result : Result U Refusal)
    → HasRead MAX_TRACE_BYTES name (SaysTrace spec value) before mid → StaysSteady before mid name → Prepares (Then value) Rest names mid after result
    → Prepares (AsksTrace spec name Then) Rest (name ∷ names) before after result
trace_reads {U} spec name names Then Rest value before mid after result has steady finds =
    document_reads (SaysTrace spec) (BreaksTrace spec) MAX_TRACE_BYTES long_trace name names Then Rest value before mid after result has steady finds

-- If the trace was not loaded from a file, the refusal is the answer to the file.
pub trace_unread : (spec : Parts) (name : List ℕ) (names : List (List ℕ)) (Then : Flown → Answer) (before after : FilesState) (refusal : Refusal)
    → IsUnloaded (BreaksTrace spec) MAX_TRACE_BYTES long_trace name before after (answer_of refusal) → StaysSteady before after name
    → ((answer_of refusal).0 ≡ UNREAD_FILE → Rose before.faults after.faults)
    → Decides (AsksTrace spec name Then) (name ∷ names) before after (answer_of refusal).0 (answer_of refusal).1
trace_unread spec name names Then before after refusal is steady unread =
    refused_reads (SaysTrace spec) (BreaksTrace spec) MAX_TRACE_BYTES long_trace name names Then before after refusal is steady unread
