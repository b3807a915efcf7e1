-- Texts that are appended to a line, one after another.
use Rattle.std.proofs.Common.{◌≡◌, ℕ, List, [], ◌∷◌, ap, refl, ◌++◌, ◌∙◌}
use Rattle.std.proofs.lemmas.List.{append_assoc}

-- The line with these pieces appended, one after another.
abbrev pub with_pieces : List ℕ → List (List ℕ) → List ℕ
with_pieces line [] = line
with_pieces line (piece ∷ pieces) = with_pieces (line ++ piece) pieces

-- Pieces that are appended one after another make up one text that is appended.
pub append_all : (line text : List ℕ) (pieces : List (List ℕ)) → with_pieces (line ++ text) pieces ≡ line ++ with_pieces text pieces
append_all line text [] = refl
append_all line text (piece ∷ pieces) = ap (λ (start : List ℕ). with_pieces start pieces) (append_assoc line text piece) ∙ append_all line (text ++ piece) pieces

-- The line after one more piece.
pub add_piece : {before line after bytes piece : List ℕ} → before ≡ line → after ≡ before ++ bytes → bytes ≡ piece → after ≡ line ++ piece
add_piece {before} {line} {after} {bytes} {piece} so_far added is = added ∙ ap (λ (text : List ℕ). text ++ bytes) so_far ∙ ap (λ (text : List ℕ). line ++ text) is
