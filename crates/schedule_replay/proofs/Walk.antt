-- Lemmas on how the reading of a schedule continues or ends after a further line.
use Rattle.std.proofs.Common.{ℕ, ◌≡◌, ◌<◌, ◌≤◌, ◌+◌, ◌∙◌, List, [], ◌∷◌, ◌++◌, Result, Ok, Err, length, arith, refl, sym, ap}
use Rattle.std.proofs.lemmas.Bool.{le-ltb}
use Rattle.scram_types.specs.Specification.{Parts}
use Rattle.bank_words.specs.declared.events.Event.{Event}
use Rattle.trace_text.specs.Pieces.{pieces_of}
use Rattle.trace_text.proofs.Splitting.{some_piece}
use Rattle.schedule_replay.specs.declared.limits.TheConstants.{MAX_SCHEDULE_BYTES}
use Rattle.schedule_replay.specs.declared.schedule_reading.ScheduleFault.{ScheduleFault}
use Rattle.schedule_replay.specs.Reading.{events_from, event_read, schedule_fault, read_on, schedule_of}

-- A line that is not the last is read, and the reading continues with the line after it.
pub line_then : (spec : Parts) (k : ℕ) (so_far : List Event) (line : List ℕ) (lines : List (List ℕ)) → 0 < length lines →
    events_from spec k so_far (line ∷ lines) ≡ read_on k (event_read spec line) (λ (event : Event). events_from spec (k + 1) (so_far ++ event ∷ []) lines)
line_then spec k so_far line [] h = absurd (omega arith)
line_then spec k so_far line (next ∷ lines) h = refl

pub of_length : (spec : Parts) (bytes : List ℕ) → length bytes ≤ MAX_SCHEDULE_BYTES → schedule_of spec bytes ≡ events_from spec 1 [] (pieces_of 10 bytes)
of_length spec bytes h = rw (le-ltb MAX_SCHEDULE_BYTES (length bytes) h) refl

step : (spec : Parts) (k : ℕ) (so_far : List Event) (text rest behind : List ℕ) (read : Result (List Event) ScheduleFault) → pieces_of 10 rest ≡ text ∷ pieces_of 10 behind
    → events_from spec k so_far (pieces_of 10 rest) ≡ read
    → read_on k (event_read spec text) (λ (event : Event). events_from spec (k + 1) (so_far ++ event ∷ []) (pieces_of 10 behind)) ≡ read
step spec k so_far text rest behind read split here =
    sym (line_then spec k so_far text (pieces_of 10 behind) (some_piece 10 behind)) ∙ ap (events_from spec k so_far) (sym split) ∙ here

-- If a line is read as an event, then the reading continues after the line with the same result.
pub taken : (spec : Parts) (k : ℕ) (so_far : List Event) (text rest behind : List ℕ) (event : Event) (read : Result (List Event) ScheduleFault) → pieces_of 10 rest ≡ text ∷ pieces_of 10 behind
    → event_read spec text ≡ Ok event → events_from spec k so_far (pieces_of 10 rest) ≡ read
    → events_from spec (k + 1) (so_far ++ event ∷ []) (pieces_of 10 behind) ≡ read
taken spec k so_far text rest behind event read split told here =
    ap (λ (r : Result Event ℕ). read_on k r (λ (e : Event). events_from spec (k + 1) (so_far ++ e ∷ []) (pieces_of 10 behind))) (sym told)
    ∙ step spec k so_far text rest behind read split here

-- If a line breaks a rule, then the reading of the file ends with the fault of that line and rule.
pub refused : (spec : Parts) (k : ℕ) (so_far : List Event) (text rest behind bytes : List ℕ) (rule : ℕ) → pieces_of 10 rest ≡ text ∷ pieces_of 10 behind
    → event_read spec text ≡ Err rule → length bytes ≤ MAX_SCHEDULE_BYTES → events_from spec k so_far (pieces_of 10 rest) ≡ events_from spec 1 [] (pieces_of 10 bytes)
    → schedule_of spec bytes ≡ Err (schedule_fault k rule)
refused spec k so_far text rest behind bytes rule split told short here =
    of_length spec bytes short ∙ sym (step spec k so_far text rest behind _ split here)
    ∙ ap (λ (r : Result Event ℕ). read_on k r (λ (e : Event). events_from spec (k + 1) (so_far ++ e ∷ []) (pieces_of 10 behind))) told
