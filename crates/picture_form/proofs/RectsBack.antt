-- The contents of a box can be recovered from its line.
use Rattle.std.proofs.Common.{◌≡◌, ℕ, zero, suc, ◌+◌, ◌*◌, ◌<◌, ◌^◌, Bool, true, false, cond, List, [], ◌∷◌, ◌++◌, Option, Some, length, decimal, refl, sym, ap, arith, append_assoc, ◌∙◌}
use Rattle.std.specs.Prelude.{codes, slice_index, nat_le}
use Rattle.std.specs.Char.{is_ascii_digit}
use Rattle.std.specs.List.{list_all}
use Rattle.std.specs.Str.Parse.{AllDigits}
use Rattle.std.proofs.lemmas.Bool.{and_from, le-leb}
use Rattle.std.proofs.lemmas.Fmt.{decimal_injective, decimal_is_IsNumeral}
use Rattle.std.proofs.lemmas.List.{append_cancel_left}
use Rattle.std.proofs.lemmas.Str.Parse.{digit_from_value}
use Rattle.trace_text.proofs.WordBytes.{all_over, all_over_less, decimal_over, over}
use Rattle.picture_form.specs.Boxes.{box_text, frames_text, label_text, place_text, placed_text}
use Rattle.picture_form.proofs.Cuts.{both_over, cut, field, left_after, left_append, passed}

digits_all : (ds : List ℕ) → AllDigits 10 ds → list_all is_ascii_digit ds ≡ true
digits_all [] d = refl
digits_all (c ∷ cs) d =
    let k = digit_from_value c d.0 in
    and_from _ _ (and_from _ _ (le-leb 48 c (omega arith)) (le-leb c 57 (omega arith))) (digits_all cs d.1)

pub decimal_digits : (n : ℕ) → n < 2 ^ 64 → list_all is_ascii_digit (decimal n) ≡ true
decimal_digits n small = digits_all (decimal n) (decimal_is_IsNumeral n small).0.1

pub decimal_plain : (n : ℕ) → n < 2 ^ 64 → all_over 32 (decimal n) ≡ true
decimal_plain n small = all_over_less 32 48 (decimal n) (omega arith) (decimal_over n small)

-- Two equal texts begin with numbers. If the same byte follows both numbers and is not a digit, the numbers are
-- equal, and the texts after that byte are equal.
pub same_number : (d k j : ℕ) (r s : List ℕ) → is_ascii_digit d ≡ false → k < 2 ^ 64 → j < 2 ^ 64 → decimal k ++ d ∷ r ≡ decimal j ++ d ∷ s → (k ≡ j) × (r ≡ s)
same_number d k j r s free p q h =
    let both = field is_ascii_digit d (decimal k) (decimal j) r s free (decimal_digits k p) (decimal_digits j q) h in
    (decimal_injective k j p q both.0, both.1)

-- The text of the frames of a span without its leading space. The span begins in frame `k` and has `n + 1` rows.
abbrev pub frames_tail : ℕ → ℕ → List ℕ
frames_tail k zero = codes "frame " ++ decimal k
frames_tail k (suc n) = codes "frames " ++ (decimal k ++ (codes " to " ++ decimal (k + suc n)))

pub frames_after : (k n : ℕ) → frames_text k (suc n) ≡ 32 ∷ frames_tail k n
frames_after k zero = refl
frames_after k (suc n) = ap (λ (text : List ℕ). codes " frames " ++ text) (append_assoc (decimal k) (codes " to ") (decimal (k + suc n)))

pub frames_plain : (k n : ℕ) → k + n < 2 ^ 64 → all_over 32 (frames_tail k n) ≡ true
frames_plain k zero few = decimal_plain k (omega (arith, few))
frames_plain k (suc n) few = both_over 32 (decimal k) (codes " to " ++ decimal (k + suc n)) (decimal_plain k (omega (arith, few))) (decimal_plain (k + suc n) few)

grouped : (a b c d e f : List ℕ) → (a ++ b) ++ c ≡ (d ++ e) ++ f → a ++ (b ++ c) ≡ d ++ (e ++ f)
grouped a b c d e f h = sym (append_assoc a b c) ∙ h ∙ append_assoc d e f

pub frames_same : (k n j m : ℕ) (r s : List ℕ) → k + n < 2 ^ 64 → j + m < 2 ^ 64 → frames_tail k n ++ 60 ∷ r ≡ frames_tail j m ++ 60 ∷ s → (k ≡ j) × (n ≡ m)
frames_same k zero j zero r s p q h =
    let rest : decimal k ++ 60 ∷ r ≡ decimal j ++ 60 ∷ s = append_cancel_left (codes "frame ") _ _ h in
    ((same_number 60 k j r s refl (omega (arith, p)) (omega (arith, q)) rest).0, refl)
frames_same k zero j (suc m) r s p q h = let e : ◌≡◌ {A = ℕ} 32 115 = ap (λ (t : List ℕ). slice_index t 5) h in absurd (omega (arith, e))
frames_same k (suc n) j zero r s p q h = let e : ◌≡◌ {A = ℕ} 115 32 = ap (λ (t : List ℕ). slice_index t 5) h in absurd (omega (arith, e))
frames_same k (suc n) j (suc m) r s p q h =
    let rest : (decimal k ++ (codes " to " ++ decimal (k + suc n))) ++ 60 ∷ r ≡ (decimal j ++ (codes " to " ++ decimal (j + suc m))) ++ 60 ∷ s
    = append_cancel_left (codes "frames ") _ _ h in
    let whole = grouped (decimal k) (codes " to " ++ decimal (k + suc n)) (60 ∷ r) (decimal j) (codes " to " ++ decimal (j + suc m)) (60 ∷ s) rest in
    let first = same_number 32 k j (codes "to " ++ (decimal (k + suc n) ++ 60 ∷ r)) (codes "to " ++ (decimal (j + suc m) ++ 60 ∷ s)) refl (omega (arith, p)) (omega (arith, q)) whole in
    let last : decimal (k + suc n) ++ 60 ∷ r ≡ decimal (j + suc m) ++ 60 ∷ s = append_cancel_left (codes "to ") _ _ first.1 in
    let start : k ≡ j = first.0 in
    let sums : k + suc n ≡ j + suc m = (same_number 60 (k + suc n) (j + suc m) r s refl p q last).0 in
    (start, omega (arith, start, sums))

-- The line of a box, given its class, its position and size, the name of its lane, its words, the text of its frames,
-- and its label.
abbrev pub rect_of : List ℕ → List ℕ → List ℕ → List ℕ → List ℕ → List ℕ → List ℕ
rect_of class box name words frames label =
    codes "<rect class=\"" ++ (class ++ (codes "\"" ++ (box ++ (codes "><title>" ++ (name ++ (codes " " ++ (words ++ (frames ++ (codes "</title></rect>" ++ (label ++ codes "\n"))))))))))

pub rect_grouped : (class box name words frames label : List ℕ)
    → codes "<rect class=\"" ++ class ++ codes "\"" ++ box ++ codes "><title>" ++ name ++ codes " " ++ words ++ frames ++ codes "</title></rect>" ++ label ++ codes "\n"
    ≡ rect_of class box name words frames label
rect_grouped class box name words frames label = simp append_assoc

-- The text after the words of a box.
abbrev pub after_words : List ℕ → List ℕ → List ℕ
after_words frames label = frames ++ (codes "</title></rect>" ++ (label ++ codes "\n"))

pub rect_ends : (class box name words frames label : List ℕ) → all_over 32 class ≡ true → all_over 32 box ≡ true → all_over 32 name ≡ true → all_over 32 words ≡ true
    → all_over 32 frames ≡ true → all_over 32 label ≡ true → left_after 10 (Some 1) (rect_of class box name words frames label) ≡ Some 0
rect_ends class box name words frames label a b c d e f =
    passed 10 32 0 class _ (omega arith) a ∙ (passed 10 32 0 box _ (omega arith) b ∙ (passed 10 32 0 name _ (omega arith) c ∙ (passed 10 32 0 words _ (omega arith) d
    ∙ (passed 10 32 0 frames _ (omega arith) e ∙ passed 10 32 0 label _ (omega arith) f))))

pub rect_parts : (class box name words frames label other_class other_box other_words other_frames other_label : List ℕ) → all_over 48 class ≡ true → all_over 48 other_class ≡ true
    → left_after 34 (Some 8) box ≡ Some 0 → left_after 34 (Some 8) other_box ≡ Some 0
    → rect_of class box name words frames label ≡ rect_of other_class other_box name other_words other_frames other_label
    → (class ≡ other_class) × (words ++ after_words frames label ≡ other_words ++ after_words other_frames other_label)
rect_parts class box name words frames label other_class other_box other_words other_frames other_label a b c d h =
    let first = field (over 48) 34 class other_class _ _ refl a b (append_cancel_left (codes "<rect class=\"") _ _ h) in
    let second = cut 34 (Some 8) box other_box _ _ c d first.1 in
    (first.0, append_cancel_left (codes " ") _ _ (append_cancel_left name _ _ (append_cancel_left (codes "><title>") _ _ second.1)))

place_quotes : (x y : ℕ) → x < 2 ^ 64 → y < 2 ^ 64 → left_after 34 (Some 8) (place_text x y) ≡ Some 4
unfolding place_text
place_quotes x y p q = simp append_assoc (passed 34 48 6 (decimal x) _ (omega arith) (decimal_over x p) ∙ passed 34 48 4 (decimal y) _ (omega arith) (decimal_over y q))

pub box_quotes : (x y width : ℕ) → x < 2 ^ 64 → y < 2 ^ 64 → width < 2 ^ 64 → left_after 34 (Some 8) (box_text x y width) ≡ Some 0
unfolding box_text
box_quotes x y width p q r =
    simp append_assoc (left_append 34 (Some 8) (place_text x y) (codes " width=\"" ++ (decimal width ++ codes "\" height=\"16\""))
    ∙ ap (λ (n : Option ℕ). left_after 34 n (codes " width=\"" ++ (decimal width ++ codes "\" height=\"16\""))) (place_quotes x y p q)
    ∙ passed 34 48 2 (decimal width) (codes "\" height=\"16\"") (omega arith) (decimal_over width r))

place_grouped : (x y : ℕ) → place_text x y ≡ codes " x=\"" ++ (decimal x ++ (codes "\" y=\"" ++ (decimal y ++ codes "\"")))
unfolding place_text
place_grouped x y = simp append_assoc

place_plain : (x y : ℕ) → x < 2 ^ 64 → y < 2 ^ 64 → all_over 32 (place_text x y) ≡ true
place_plain x y p q =
    ap (all_over 32) (place_grouped x y)
    ∙ both_over 32 (decimal x) (codes "\" y=\"" ++ (decimal y ++ codes "\"")) (decimal_plain x p) (both_over 32 (decimal y) (codes "\"") (decimal_plain y q) refl)

box_grouped : (x y width : ℕ) → box_text x y width ≡ place_text x y ++ (codes " width=\"" ++ (decimal width ++ codes "\" height=\"16\""))
unfolding box_text
box_grouped x y width = simp append_assoc

pub box_plain : (x y width : ℕ) → x < 2 ^ 64 → y < 2 ^ 64 → width < 2 ^ 64 → all_over 32 (box_text x y width) ≡ true
box_plain x y width p q r =
    ap (all_over 32) (box_grouped x y width)
    ∙ both_over 32 (place_text x y) (codes " width=\"" ++ (decimal width ++ codes "\" height=\"16\"")) (place_plain x y p q)
    (both_over 32 (decimal width) (codes "\" height=\"16\"") (decimal_plain width r) refl)

pub placed_grouped : (class text : List ℕ) (x y : ℕ) → placed_text class x y text
    ≡ codes "<text class=\"" ++ (class ++ (codes "\"" ++ (place_text x y ++ (codes ">" ++ (text ++ codes "</text>")))))
unfolding placed_text
placed_grouped class text x y = simp append_assoc

placed_plain : (x y : ℕ) (text : List ℕ) → x < 2 ^ 64 → y < 2 ^ 64 → all_over 32 text ≡ true → all_over 32 (placed_text (codes "value") x y text) ≡ true
placed_plain x y text p q e =
    ap (all_over 32) (placed_grouped (codes "value") text x y)
    ∙ both_over 32 (place_text x y) (codes ">" ++ (text ++ codes "</text>")) (place_plain x y p q) (both_over 32 text (codes "</text>") e refl)

plain_where : (there : Bool) (text : List ℕ) → all_over 32 text ≡ true → all_over 32 (cond there text []) ≡ true
plain_where true text e = e
plain_where false text e = refl

pub label_plain : (x y width : ℕ) (label : List ℕ) → x + 3 < 2 ^ 64 → y + 12 < 2 ^ 64 → all_over 32 label ≡ true → all_over 32 (label_text x y width label) ≡ true
label_plain x y width label p q e = plain_where (nat_le (7 * length label + 3) width) (placed_text (codes "value") (x + 3) (y + 12) label) (placed_plain (x + 3) (y + 12) label p q e)
