-- Lemmas on reading a further line of a trace.
use Rattle.std.proofs.Common.{ℕ, ◌≡◌, ◌<◌, ◌≤◌, ◌+◌, ◌∙◌, List, [], ◌∷◌, Result, Ok, Err, length, arith, refl, sym, ap}
use Rattle.std.proofs.lemmas.Bool.{le-ltb}
use Rattle.scram_types.specs.declared.limits.TheConstants.{MAX_TRACE_BYTES}
use Rattle.scram_types.specs.Specification.{Parts}
use Rattle.scram_types.specs.declared.rows.Flown.{Flown}
use Rattle.trace_text.specs.declared.progress.Stop.{Stop}
use Rattle.trace_text.specs.declared.progress.Stop.TheVariants.{Rule, NoMemory}
use Rattle.trace_text.specs.declared.trace_reading.TraceFault.{TraceFault}
use Rattle.trace_text.specs.Pieces.{pieces_of}
use Rattle.trace_text.specs.TraceReading.{AnswersLine, AnswersTrace, ReadingState, after_line, before_first, fault_at, go_on, stopped, trace_from, trace_of}
use Rattle.trace_text.proofs.Splitting.{some_piece}

-- If further lines follow a line, reading continues with them in the state after the line.
pub line_then : (spec : Parts) (k : ℕ) (s : ReadingState) (line : List ℕ) (lines : List (List ℕ)) → 0 < length lines →
    trace_from spec k s (line ∷ lines) ≡ go_on k (after_line spec s line) (λ (t : ReadingState). trace_from spec (k + 1) t lines)
line_then spec k s line [] h = absurd (omega arith)
line_then spec k s line (next ∷ lines) h = refl

pub of_length : (spec : Parts) (bytes : List ℕ) → length bytes ≤ MAX_TRACE_BYTES → trace_of spec bytes ≡ trace_from spec 1 before_first (pieces_of 10 bytes)
of_length spec bytes h = rw (le-ltb MAX_TRACE_BYTES (length bytes) h) refl

-- If a line is accepted, reading continues after it with the same result.
pub taken : (spec : Parts) (k : ℕ) (s t : ReadingState) (text rest behind : List ℕ) (read : Result Flown TraceFault) →
    pieces_of 10 rest ≡ text ∷ pieces_of 10 behind → after_line spec s text ≡ Ok t → trace_from spec k s (pieces_of 10 rest) ≡ read →
    trace_from spec (k + 1) t (pieces_of 10 behind) ≡ read
taken spec k s t text rest behind read split step so_far =
    let e : trace_from spec k s (text ∷ pieces_of 10 behind) ≡ read = rw split at so_far in
    let f : go_on k (after_line spec s text) (λ (u : ReadingState). trace_from spec (k + 1) u (pieces_of 10 behind)) ≡ read
    = sym (line_then spec k s text (pieces_of 10 behind) (some_piece 10 behind)) ∙ e in
    rw step at f

refused : (spec : Parts) (k : ℕ) (s : ReadingState) (text rest behind bytes : List ℕ) (rule : ℕ) →
    pieces_of 10 rest ≡ text ∷ pieces_of 10 behind → after_line spec s text ≡ Err rule → trace_from spec k s (pieces_of 10 rest) ≡ trace_of spec bytes →
    trace_of spec bytes ≡ Err (fault_at k rule)
refused spec k s text rest behind bytes rule split step so_far =
    let e : trace_from spec k s (text ∷ pieces_of 10 behind) ≡ trace_of spec bytes = rw split at so_far in
    sym e ∙ line_then spec k s text (pieces_of 10 behind) (some_piece 10 behind)
    ∙ ap (λ (r : Result ReadingState ℕ). go_on k r (λ (u : ReadingState). trace_from spec (k + 1) u (pieces_of 10 behind))) step

-- If a line is not accepted, reading ends with the error for this line.
pub not_taken : (spec : Parts) (k : ℕ) (s : ReadingState) (text rest behind bytes : List ℕ) (stop : Stop) →
    pieces_of 10 rest ≡ text ∷ pieces_of 10 behind → AnswersLine (after_line spec s text) (Err stop) → trace_from spec k s (pieces_of 10 rest) ≡ trace_of spec bytes →
    AnswersTrace (trace_of spec bytes) (Err (stopped k stop))
not_taken spec k s text rest behind bytes (Rule rule) split step so_far = refused spec k s text rest behind bytes rule split step so_far
not_taken spec k s text rest behind bytes NoMemory split step so_far = tt
