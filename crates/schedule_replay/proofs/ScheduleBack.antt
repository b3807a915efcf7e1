-- The events of a schedule are read back from the text that is written for them.
use Rattle.std.proofs.Common.{ℕ, suc, ◌≡◌, ◌≤◌, ◌+◌, ◌∙◌, List, [], ◌∷◌, ◌++◌, Result, Ok, Err, length, refl, sym, ap, append_assoc, append-nil}
use Rattle.std.specs.Prelude.{IfOk, Vec, codes}
use Rattle.scram_types.specs.Specification.{IsSpec, Parts}
use Rattle.scram_types.specs.declared.memory.NoMemory.{NoMemory}
use Rattle.bank_words.specs.declared.events.Event.{Event}
use Rattle.trace_text.specs.Pieces.{pieces_of}
use Rattle.trace_text.proofs.Splitting.{some_piece}
use Rattle.trace_text.proofs.WordBytes.{line_split}
use Rattle.schedule_replay.specs.declared.limits.TheConstants.{MAX_SCHEDULE_BYTES}
use Rattle.schedule_replay.specs.Events.{HasEvent, HasEvents, event_line, event_text, schedule_text}
use Rattle.schedule_replay.specs.Reading.{events_from, read_on, schedule_of}
use Rattle.schedule_replay.proofs.EventsBack.{line_back}
use Rattle.schedule_replay.proofs.Walk.{line_then, of_length}

-- The line of an event is read as the event, and the reading continues with the lines after it.
one_line : (spec : Parts) (k : ℕ) (so_far : List Event) (event : Event) (rest : List ℕ) → IsSpec spec → HasEvent spec event
    → events_from spec k so_far (pieces_of 10 (event_line spec event ++ rest)) ≡ events_from spec (k + 1) (so_far ++ event ∷ []) (pieces_of 10 rest)
one_line spec k so_far event rest sound has =
    let line = line_back spec event sound has in
    ap (λ (text : List ℕ). events_from spec k so_far (pieces_of 10 text)) (append_assoc (event_text spec event) (codes "\n") rest)
    ∙ ap (events_from spec k so_far) (line_split (event_text spec event) rest line.plain)
    ∙ line_then spec k so_far (event_text spec event) (pieces_of 10 rest) (some_piece 10 rest)
    ∙ ap (λ (r : Result Event ℕ). read_on k r (λ (e : Event). events_from spec (k + 1) (so_far ++ e ∷ []) (pieces_of 10 rest))) line.read

events_read : (spec : Parts) (k : ℕ) (so_far list : List Event) → IsSpec spec → HasEvents spec list → events_from spec k so_far (pieces_of 10 (schedule_text spec list)) ≡ Ok (so_far ++ list)
events_read spec k so_far [] sound has = ap (λ (l : List Event). Ok l) (sym (append-nil so_far))
events_read spec k so_far (event ∷ list) sound has =
    one_line spec k so_far event (schedule_text spec list) sound (has 0 event refl)
    ∙ events_read spec (k + 1) (so_far ++ event ∷ []) list sound (λ i x there. has (suc i) x there)
    ∙ ap (λ (l : List Event). Ok l) (append_assoc so_far (event ∷ []) list)

pub written_is_read : (spec : Parts) (list : List Event) → IsSpec spec → HasEvents spec list → length (schedule_text spec list) ≤ MAX_SCHEDULE_BYTES → schedule_of spec (schedule_text spec list) ≡ Ok list
written_is_read spec list sound has short = of_length spec (schedule_text spec list) short ∙ events_read spec 1 [] list sound has

pub written_back : {A : Type 0} (spec : Parts) (list : List Event) (result : Result (Vec ℕ A) NoMemory) → IsSpec spec → HasEvents spec list → IfOk result (λ text. text.items ≡ schedule_text spec list)
    → IfOk result (λ text. length text.items ≤ MAX_SCHEDULE_BYTES → schedule_of spec text.items ≡ Ok list)
written_back spec list (Ok text) sound has is = rw is (written_is_read spec list sound has)
written_back spec list (Err none) sound has is = tt
