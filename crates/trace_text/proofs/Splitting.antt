-- Lemmas on splitting bytes at their first separator.
use Rattle.std.proofs.Common.{ℕ, suc, ◌≡◌, ◌<◌, ◌≤◌, ◌+◌, ◌∙◌, Bool, true, false, cond, List, [], ◌∷◌, ◌++◌, Option, Some, None, take, drop, length, arith, refl, sym, ap, not, Bor, append-nil}
use Rattle.std.specs.Prelude.{◌==◌, ◌&&◌, nat_lt, nat_le, option_map}
use Rattle.std.specs.List.{list_all, position, position_or_len, onto_first}
use Rattle.std.proofs.lemmas.Bool.{ltb-true, lt-ltb, le-leb}
use Rattle.std.proofs.lemmas.List.Splits.{slice_split_first}
use Rattle.std.proofs.lemmas.List.Splits.{length-slice_split}
use Rattle.trace_text.specs.Pieces.{pieces_of, pieces_left, sides, sides_of, words_of, words_in, is_filled}
use Rattle.trace_text.proofs.Inversion.{some_says}

pub place_below : (separator at : ℕ) (bytes : List ℕ) → position (λ (b : ℕ). b == separator) bytes ≡ Some at → at < length bytes
place_below separator at bytes h =
    let p = some_says (nat_lt (position_or_len (λ (b : ℕ). b == separator) bytes) (length bytes)) (position_or_len (λ (b : ℕ). b == separator) bytes) at h in
    rw (← p.1) (ltb-true _ _ p.0)

pub first_piece : (separator at : ℕ) (bytes : List ℕ) → position (λ (b : ℕ). b == separator) bytes ≡ Some at →
    pieces_of separator bytes ≡ take at bytes ∷ pieces_of separator (drop (at + 1) bytes)
first_piece separator at bytes h =
    let p = some_says (nat_lt (position_or_len (λ (b : ℕ). b == separator) bytes) (length bytes)) (position_or_len (λ (b : ℕ). b == separator) bytes) at h in
    rw (← p.1) (slice_split_first (λ (b : ℕ). b == separator) bytes 0 (ltb-true _ _ p.0))

none_says : {A : Type 0} (b : Bool) (x : A) → cond b (Some x) None ≡ None → b ≡ false
none_says true x h = absurd (let e = h in cc)
none_says false x h = refl

not_less : (n m : ℕ) (t : Bool) → nat_lt n m ≡ t → nat_lt (1 + n) (suc m) ≡ false → t ≡ false
not_less n m false e h = refl
not_less n m true e h = absurd (let k = ltb-true n m e in let u : nat_lt (1 + n) (suc m) ≡ true = lt-ltb (1 + n) (suc m) (omega arith) in cc)

whole_by : (t : Bool) (b n : ℕ) (bytes : List ℕ) (pieces : List (List ℕ)) → nat_lt (cond (not t) (1 + n) 0) (suc (length bytes)) ≡ false →
    (nat_lt n (length bytes) ≡ false → pieces ≡ bytes ∷ []) → cond t ([] ∷ pieces) (onto_first b pieces) ≡ (b ∷ bytes) ∷ []
whole_by true b n bytes pieces h more = absurd (let u : nat_lt 0 (suc (length bytes)) ≡ true = lt-ltb 0 (suc (length bytes)) (omega arith) in let e : nat_lt 0 (suc (length bytes)) ≡ false = h in cc)
whole_by false b n bytes pieces h more = ap (onto_first b) (more (not_less n (length bytes) (nat_lt n (length bytes)) refl h))

whole : (separator : ℕ) (bytes : List ℕ) → nat_lt (position_or_len (λ (b : ℕ). b == separator) bytes) (length bytes) ≡ false →
    pieces_of separator bytes ≡ bytes ∷ []
whole separator [] h = refl
whole separator (b ∷ bytes) h =
    whole_by (b == separator) b (position_or_len (λ (c : ℕ). c == separator) bytes) bytes (pieces_of separator bytes) h (whole separator bytes)

pub no_separator : (separator : ℕ) (bytes : List ℕ) → position (λ (b : ℕ). b == separator) bytes ≡ None →
    pieces_of separator bytes ≡ bytes ∷ []
no_separator separator bytes h =
    whole separator bytes (none_says (nat_lt (position_or_len (λ (b : ℕ). b == separator) bytes) (length bytes)) (position_or_len (λ (b : ℕ). b == separator) bytes) h)

-- Splitting any bytes results in at least one piece.
pub some_piece : (separator : ℕ) (bytes : List ℕ) → 0 < length (pieces_of separator bytes)
some_piece separator bytes = rw (length-slice_split (λ (b : ℕ). b == separator) bytes) (omega arith)

many_sides : (left right : List ℕ) (pieces : List (List ℕ)) → 0 < length pieces → sides (left ∷ right ∷ pieces) ≡ None
many_sides left right [] h = absurd (omega arith)
many_sides left right (piece ∷ pieces) h = refl

pub two_slashes : (text left right middle last : List ℕ) → pieces_of 47 text ≡ left ∷ pieces_of 47 right → pieces_of 47 right ≡ middle ∷ pieces_of 47 last →
    sides_of text ≡ None
two_slashes text left right middle last first second = rw (first, second) (many_sides left middle (pieces_of 47 last) (some_piece 47 last))

all_words : (ws line : List (List ℕ)) → ws ≡ line → list_all is_filled ws ≡ true → length ws ≤ 16 →
    Some ws ≡ cond (nat_le (length line) 16 && list_all is_filled line) (Some line) None
all_words ws line e filled few =
    let f : list_all is_filled line ≡ true = rw (← e) filled in
    let n : length line ≤ 16 = rw (← e) few in
    rw (le-leb (length line) 16 n, f) (ap Some e)

-- If a line has been split to its end into at most 16 words that are not empty, these are the words of the line.
pub split_whole : (ws : List (List ℕ)) (left : Option (Bor (List ℕ))) (line : List ℕ) → left ≡ None →
    ws ++ pieces_left 32 (option_map (λ (b : Bor (List ℕ)). b.now) left) ≡ words_of line → list_all is_filled ws ≡ true → length ws ≤ 16 → Some ws ≡ words_in line
split_whole ws left line none split filled few =
    all_words ws (words_of line) (let e : ws ++ [] ≡ words_of line = rw none at split in sym (append-nil ws) ∙ e) filled few
