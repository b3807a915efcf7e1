-- Lemmas on the lines of a file, which are separated by line feeds.
use Rattle.std.proofs.Common.{◌≡◌, ◌<◌, ℕ, List, [], ◌∷◌, arith, length, refl}
use Rattle.trace_text.specs.Pieces.{pieces_of}
use Rattle.trace_text.proofs.Splitting.{some_piece}
use Rattle.flights_form.specs.Scripts.{lines_of, without_empty_last}

piece_then : (piece : List ℕ) (pieces : List (List ℕ)) → 0 < length pieces → without_empty_last (piece ∷ pieces) ≡ piece ∷ without_empty_last pieces
piece_then piece [] some = absurd (omega (arith, some))
piece_then piece (next ∷ pieces) some = refl

-- If the first line of a file ends before a line feed, the other lines are the lines of the bytes after the line
-- feed.
pub line_then : (bytes line behind : List ℕ) → pieces_of 10 bytes ≡ line ∷ pieces_of 10 behind → lines_of bytes ≡ line ∷ lines_of behind
line_then bytes line behind split = rw split (piece_then line (pieces_of 10 behind) (some_piece 10 behind))
