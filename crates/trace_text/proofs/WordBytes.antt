-- The bytes of printed words. A printed line is split into the words that it was joined from.
use Rattle.std.proofs.Common.{ℕ, ℤ, pos, negsuc, suc, ◌≡◌, ◌<◌, ◌≤◌, ◌+◌, ◌^◌, ◌∙◌, Bool, true, false, List, [], ◌∷◌, ◌++◌, Some, All, length, decimal, arith, refl, ap, length-append}
use mathlib.Core.Logic.{inl, inr}
use Rattle.std.specs.Prelude.{◌==◌, ◌&&◌, ◌||◌, nat_le}
use Rattle.std.specs.Char.{is_ascii_lowercase, is_ascii_digit}
use Rattle.std.specs.Fmt.{signed_decimal}
use Rattle.std.specs.List.{join_with_byte, list_all}
use Rattle.std.specs.Str.Parse.{AllDigits}
use Rattle.std.proofs.lemmas.Bool.{and_from, and_parts, eq-eqb, eqb-true, leb-true, le-leb, lt-ltb, ne_eqb, or_cases}
use Rattle.std.proofs.lemmas.Fmt.{decimal_is_IsNumeral, decimal_nonempty}
use Rattle.std.proofs.lemmas.List.Elements.{All-cons, All-nil}
use Rattle.std.proofs.lemmas.List.Folds.{list_all-append}
use Rattle.std.proofs.lemmas.List.Splits.{slice_split_at, slice_split_none}
use Rattle.std.proofs.lemmas.Str.Parse.{digit_from_value}
use lib.Signed.{mag}
use Rattle.scram_types.specs.Names.{is_name, is_name_byte}
use Rattle.scram_types.specs.declared.limits.TheConstants.{MAX_LINE_BYTES}
use Rattle.trace_text.specs.Pieces.{is_filled, pieces_of, words_in, words_of}
use Rattle.trace_text.specs.TraceReading.{is_plain, is_printable}

-- Whether the byte `b` is printable and at least `least`.
abbrev pub over : ℕ → ℕ → Bool
over least b = nat_le least b && nat_le b 126

abbrev pub all_over : ℕ → List ℕ → Bool
all_over least text = list_all (over least) text

over_less : (low high b : ℕ) → low ≤ high → over high b ≡ true → over low b ≡ true
over_less low high b h e =
    let p = and_parts (nat_le high b) (nat_le b 126) e in
    let k = leb-true high b p.0 in
    and_from _ _ (le-leb low b (omega (arith, k, h))) p.1

pub all_over_less : (low high : ℕ) (text : List ℕ) → low ≤ high → all_over high text ≡ true → all_over low text ≡ true
all_over_less low high [] h e = refl
all_over_less low high (b ∷ text) h e = let p = and_parts _ _ e in and_from _ _ (over_less low high b h p.0) (all_over_less low high text h p.1)

-- A byte below `least` does not occur in a text whose bytes are all at least `least`.
none_at : (separator least : ℕ) (text : List ℕ) → separator < least → all_over least text ≡ true → All (λ (b : ℕ). (b == separator) ≡ false) text
none_at separator least [] h e = All-nil (λ (b : ℕ). (b == separator) ≡ false)
none_at separator least (b ∷ text) h e =
    let p = and_parts _ _ e in
    let q = and_parts (nat_le least b) (nat_le b 126) p.0 in
    let k = leb-true least b q.0 in
    All-cons (λ (c : ℕ). (c == separator) ≡ false) b text (ne_eqb b separator (λ same. omega (arith, same, k, h))) (none_at separator least text h p.1)

-- If no piece contains the separator, splitting the joined pieces returns the pieces.
pub pieces_back : (separator least : ℕ) (piece : List ℕ) (pieces : List (List ℕ)) → separator < least → list_all (all_over least) (piece ∷ pieces) ≡ true →
    pieces_of separator (join_with_byte separator (piece ∷ pieces)) ≡ piece ∷ pieces
pieces_back separator least piece [] h e = slice_split_none (λ (b : ℕ). b == separator) piece (none_at separator least piece h (and_parts _ _ e).0)
pieces_back separator least piece (next ∷ pieces) h e =
    let p = and_parts _ _ e in
    slice_split_at (λ (b : ℕ). b == separator) piece separator (join_with_byte separator (next ∷ pieces)) (none_at separator least piece h p.0) (eq-eqb separator separator refl)
    ∙ ap (λ (rest : List (List ℕ)). piece ∷ rest) (pieces_back separator least next pieces h p.1)

-- Whether the word can occur in a line: it is not empty, and all its bytes are printable and are not spaces.
abbrev pub is_visible : List ℕ → Bool
is_visible word = is_filled word && all_over 33 word

visible_over : (words : List (List ℕ)) → list_all is_visible words ≡ true → list_all (all_over 33) words ≡ true
visible_over [] e = refl
visible_over (word ∷ words) e = let p = and_parts _ _ e in and_from _ _ (and_parts (is_filled word) (all_over 33 word) p.0).1 (visible_over words p.1)

visible_filled : (words : List (List ℕ)) → list_all is_visible words ≡ true → list_all is_filled words ≡ true
visible_filled [] e = refl
visible_filled (word ∷ words) e = let p = and_parts _ _ e in and_from _ _ (and_parts (is_filled word) (all_over 33 word) p.0).0 (visible_filled words p.1)

abbrev pub line_of : List (List ℕ) → List ℕ
line_of words = join_with_byte 32 words

pub words_back : (word : List ℕ) (words : List (List ℕ)) → list_all is_visible (word ∷ words) ≡ true → words_of (line_of (word ∷ words)) ≡ word ∷ words
words_back word words e = pieces_back 32 33 word words (omega arith) (visible_over (word ∷ words) e)

pub words_in_back : (word : List ℕ) (words : List (List ℕ)) → list_all is_visible (word ∷ words) ≡ true → nat_le (length (word ∷ words)) 16 ≡ true →
    words_in (line_of (word ∷ words)) ≡ Some (word ∷ words)
words_in_back word words e few = rw (words_back word words e, few, visible_filled (word ∷ words) e) refl

joined_printable : (word : List ℕ) (words : List (List ℕ)) → list_all is_visible (word ∷ words) ≡ true → all_over 32 (line_of (word ∷ words)) ≡ true
joined_printable word [] e = all_over_less 32 33 word (omega arith) (and_parts _ _ (visible_over (word ∷ []) e)).0
joined_printable word (next ∷ words) e =
    let p = and_parts _ _ e in
    let q = and_parts (is_filled word) (all_over 33 word) p.0 in
    list_all-append (over 32) word (32 ∷ line_of (next ∷ words))
    ∙ and_from _ _ (all_over_less 32 33 word (omega arith) q.1) (joined_printable next words p.1)

-- The number of bytes of a line of these words, including its line feed.
abbrev pub width : List (List ℕ) → ℕ
width [] = 0
width (word ∷ words) = length word + 1 + width words

pub line_length : (word : List ℕ) (words : List (List ℕ)) → length (line_of (word ∷ words)) + 1 ≡ width (word ∷ words)
line_length word [] = omega arith
line_length word (next ∷ words) =
    let a = length-append word (32 ∷ line_of (next ∷ words)) in
    let b = line_length next words in
    omega (arith, a, b)

pub line_plain : (word : List ℕ) (words : List (List ℕ)) → list_all is_visible (word ∷ words) ≡ true → width (word ∷ words) ≤ 513 → is_plain (line_of (word ∷ words)) ≡ true
line_plain word words e short =
    let a = line_length word words in
    let b : length (line_of (word ∷ words)) ≤ 512 = omega (arith, a, short) in
    and_from _ _ (le-leb _ 512 b) (joined_printable word words e)

-- If a line is printable, splitting a text that begins with the line and a line feed returns the line as the first
-- piece.
pub line_split : (line rest : List ℕ) → is_plain line ≡ true → pieces_of 10 (line ++ 10 ∷ rest) ≡ line ∷ pieces_of 10 rest
line_split line rest e =
    slice_split_at (λ (b : ℕ). b == 10) line 10 rest (none_at 10 32 line (omega arith) (and_parts (nat_le (length line) MAX_LINE_BYTES) (list_all is_printable line) e).1) refl

-- Lemmas on the bytes of numbers.

digits_over : (ds : List ℕ) → AllDigits 10 ds → all_over 48 ds ≡ true
digits_over [] d = refl
digits_over (c ∷ cs) d =
    let k = digit_from_value c d.0 in
    and_from _ _ (and_from _ _ (le-leb 48 c (omega arith)) (le-leb c 126 (omega arith))) (digits_over cs d.1)

pub decimal_over : (n : ℕ) → n < 2 ^ 64 → all_over 48 (decimal n) ≡ true
decimal_over n small = digits_over (decimal n) (decimal_is_IsNumeral n small).0.1

decimal_filled : (n : ℕ) → n < 2 ^ 64 → is_filled (decimal n) ≡ true
decimal_filled n small = lt-ltb 0 (length (decimal n)) (decimal_nonempty n small)

pub signed_over : (z : ℤ) → mag z < 2 ^ 63 → all_over 45 (signed_decimal z) ≡ true
signed_over (pos n) small = all_over_less 45 48 (decimal n) (omega arith) (decimal_over n (omega arith))
signed_over (negsuc n) small = all_over_less 45 48 (decimal (suc n)) (omega arith) (decimal_over (suc n) (omega arith))

signed_filled : (z : ℤ) → mag z < 2 ^ 63 → is_filled (signed_decimal z) ≡ true
signed_filled (pos n) small = decimal_filled n (omega arith)
signed_filled (negsuc n) small = lt-ltb 0 (suc (length (decimal (suc n)))) (omega arith)

pub decimal_visible : (n : ℕ) → n < 2 ^ 64 → is_visible (decimal n) ≡ true
decimal_visible n small = and_from _ _ (decimal_filled n small) (all_over_less 33 48 (decimal n) (omega arith) (decimal_over n small))

pub signed_visible : (z : ℤ) → mag z < 2 ^ 63 → is_visible (signed_decimal z) ≡ true
signed_visible z small = and_from _ _ (signed_filled z small) (all_over_less 33 45 (signed_decimal z) (omega arith) (signed_over z small))

-- Lemmas on the bytes of names.

letter_over : (b : ℕ) → is_ascii_lowercase b ≡ true → over 48 b ≡ true
letter_over b e =
    let p = and_parts (nat_le 97 b) (nat_le b 122) e in
    let low = leb-true 97 b p.0 in
    let high = leb-true b 122 p.1 in
    and_from _ _ (le-leb 48 b (omega (arith, low))) (le-leb b 126 (omega (arith, high)))

digit_over : (b : ℕ) → is_ascii_digit b ≡ true → over 48 b ≡ true
digit_over b e =
    let p = and_parts (nat_le 48 b) (nat_le b 57) e in
    let high = leb-true b 57 p.1 in
    and_from _ _ p.0 (le-leb b 126 (omega (arith, high)))

other_over : (b : ℕ) → (b == 95) ≡ true → over 48 b ≡ true
other_over b e = let same : b ≡ 95 = eqb-true b 95 e in rw same refl

name_byte_over : (b : ℕ) → is_name_byte b ≡ true → over 48 b ≡ true
name_byte_over b e = elim (or_cases (is_ascii_lowercase b || is_ascii_digit b) (b == 95) e) [
  | inl one ↦ (elim (or_cases (is_ascii_lowercase b) (is_ascii_digit b) one) [
    | inl letter ↦ letter_over b letter
    | inr digit ↦ digit_over b digit
  ])
  | inr other ↦ other_over b other
]

name_bytes_over : (text : List ℕ) → list_all is_name_byte text ≡ true → all_over 48 text ≡ true
name_bytes_over [] e = refl
name_bytes_over (b ∷ text) e = let p = and_parts _ _ e in and_from _ _ (name_byte_over b p.0) (name_bytes_over text p.1)

pub name_over : (name : List ℕ) → is_name name ≡ true → all_over 48 name ≡ true
name_over [] e = absurd (cc)
name_over (b ∷ text) e =
    let p = and_parts (is_ascii_lowercase b && list_all is_name_byte text) (nat_le (length (b ∷ text)) 16) e in
    let q = and_parts (is_ascii_lowercase b) (list_all is_name_byte text) p.0 in
    and_from _ _ (letter_over b q.0) (name_bytes_over text q.1)

pub name_short : (name : List ℕ) → is_name name ≡ true → length name ≤ 16
name_short [] e = absurd (cc)
name_short (b ∷ text) e = leb-true (length (b ∷ text)) 16 (and_parts (is_ascii_lowercase b && list_all is_name_byte text) (nat_le (length (b ∷ text)) 16) e).1

pub name_filled : (name : List ℕ) → is_name name ≡ true → is_filled name ≡ true
name_filled [] e = absurd (cc)
name_filled (b ∷ text) e = lt-ltb 0 (suc (length text)) (omega arith)

pub name_visible : (name : List ℕ) → is_name name ≡ true → is_visible name ≡ true
name_visible name e = and_from _ _ (name_filled name e) (all_over_less 33 48 name (omega arith) (name_over name e))
