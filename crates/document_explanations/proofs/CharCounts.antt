-- Lemmas on the first characters of a text, and on a text that is cut to its first 60 characters.
use Rattle.std.proofs.Common.{◌≡◌, ℕ, suc, ◌+◌, ◌-◌, ◌<◌, ◌≤◌, Bool, true, false, cond, List, [], ◌∷◌, ◌++◌, length, refl, sym, ap, ◌∙◌, arith, append-nil, ne_eqb}
use Rattle.std.specs.Prelude.{◌==◌, codes, nat_lt}
use Rattle.std.specs.Fmt.{char_count, format_spec, is_char_start, padded, styled_text, take_chars}
use Rattle.std.proofs.lemmas.Bool.{eqb-false, ltb-false, ltb-true}
use Rattle.document_explanations.specs.Found.{cut}

whole_at : (start : Bool) (n b : ℕ) (text : List ℕ) → cond start 1 0 + char_count text ≤ n
    → ((m : ℕ) → char_count text ≤ m → take_chars m text ≡ text)
    → cond start (cond (n == 0) [] (b ∷ take_chars (n - 1) text)) (b ∷ take_chars n text) ≡ b ∷ text
whole_at true n b text few more = rw (ne_eqb n 0 (λ none. omega (arith, none, few))) (ap (λ (t : List ℕ). b ∷ t) (more (n - 1) (omega (arith, few))))
whole_at false n b text few more = ap (λ (t : List ℕ). b ∷ t) (more n (omega (arith, few)))

-- If a text has at most `n` characters, its first `n` characters are the whole text.
pub whole_text : (n : ℕ) (text : List ℕ) → char_count text ≤ n → take_chars n text ≡ text
unfolding char_count take_chars
whole_text n [] few = refl
whole_text n (b ∷ text) few = whole_at (is_char_start b) n b text few (λ m less. whole_text m text less)

shorter_start : (none : Bool) (n b : ℕ) (text : List ℕ) → (n == 0) ≡ none → n < 1 + char_count text
    → ((m : ℕ) → m < char_count text → length (take_chars m text) < length text)
    → length (cond none [] (b ∷ take_chars (n - 1) text)) < suc (length text)
shorter_start true n b text is many more = omega arith
shorter_start false n b text is many more =
    let less : length (take_chars (n - 1) text) < length text = more (n - 1) (omega (arith, many, eqb-false n 0 is)) in
    let one : suc (length (take_chars (n - 1) text)) < suc (length text) = omega (arith, less) in
    one

shorter_at : (start : Bool) (n b : ℕ) (text : List ℕ) → n < cond start 1 0 + char_count text
    → ((m : ℕ) → m < char_count text → length (take_chars m text) < length text)
    → length (cond start (cond (n == 0) [] (b ∷ take_chars (n - 1) text)) (b ∷ take_chars n text)) < suc (length text)
shorter_at true n b text many more = shorter_start (n == 0) n b text refl many more
shorter_at false n b text many more =
    let less : length (take_chars n text) < length text = more n (omega (arith, many)) in
    let one : suc (length (take_chars n text)) < suc (length text) = omega (arith, less) in
    one

-- If a text has more than `n` characters, its first `n` characters have fewer bytes than the text.
pub shorter_text : (n : ℕ) (text : List ℕ) → n < char_count text → length (take_chars n text) < length text
unfolding char_count take_chars
shorter_text n [] many = absurd (omega (arith, many))
shorter_text n (b ∷ text) many = shorter_at (is_char_start b) n b text many (λ m less. shorter_text m text less)

padded_cut : (text : List ℕ) → padded (format_spec 32 0 0 0 60) text ≡ take_chars 60 text
unfolding padded
padded_cut text = let none : 0 - char_count (take_chars 60 text) ≡ 0 = omega arith in rw none (append-nil (take_chars 60 text))

not_less : (n m : ℕ) → nat_lt n m ≡ false → m ≤ n
not_less n m is = ltb-false n m is

-- A text that is formatted with a precision of 60 is cut to its first 60 characters.
pub shown_cut : (text : List ℕ) → styled_text (format_spec 32 0 0 0 60) text ≡ take_chars 60 text
shown_cut text = padded_cut text

cut_by : (more : Bool) (text short : List ℕ) → nat_lt 60 (char_count text) ≡ more → short ≡ take_chars 60 text → length short ≡ length text
    → cond more (take_chars 60 text ++ codes "..") text ≡ text
cut_by true text short is shown same = absurd (omega (arith, shorter_text 60 text (ltb-true 60 (char_count text) is), ap length shown, same))
cut_by false text short is shown same = refl

-- If the first 60 characters of a text are as long as the text, `cut` returns the whole text.
pub cut_whole : (text short : List ℕ) → short ≡ take_chars 60 text → length short ≡ length text → cut text ≡ text
cut_whole text short shown same = cut_by (nat_lt 60 (char_count text)) text short refl shown same

dots_by : (more : Bool) (text short : List ℕ) → nat_lt 60 (char_count text) ≡ more → short ≡ take_chars 60 text → (length short ≡ length text → ⊥)
    → cond more (take_chars 60 text ++ codes "..") text ≡ short ++ codes ".."
dots_by true text short is shown other = ap (λ (t : List ℕ). t ++ codes "..") (sym shown)
dots_by false text short is shown other =
    absurd (other (ap length (shown ∙ whole_text 60 text (not_less 60 (char_count text) is))))

-- If the first 60 characters of a text are shorter than the text, `cut` returns these characters followed by two
-- dots.
pub cut_dots : (text short : List ℕ) → short ≡ take_chars 60 text → (length short ≡ length text → ⊥) → cut text ≡ short ++ codes ".."
cut_dots text short shown other = dots_by (nat_lt 60 (char_count text)) text short refl shown other

-- If the byte `b` begins a character, and `take_chars m text` has at most `m` characters for each `m`, then
-- `take_chars n (b ∷ text)` has at most `n` characters.
counted_start : (none : Bool) (n b : ℕ) (text : List ℕ) → (n == 0) ≡ none → is_char_start b ≡ true → ((m : ℕ) → char_count (take_chars m text) ≤ m)
    → char_count (cond none [] (b ∷ take_chars (n - 1) text)) ≤ n
unfolding char_count
counted_start true n b text is start few = omega arith
counted_start false n b text is start few = rw start (omega (arith, few (n - 1), eqb-false n 0 is))

counted_at : (start : Bool) (n b : ℕ) (text : List ℕ) → is_char_start b ≡ start → ((m : ℕ) → char_count (take_chars m text) ≤ m)
    → char_count (cond start (cond (n == 0) [] (b ∷ take_chars (n - 1) text)) (b ∷ take_chars n text)) ≤ n
unfolding char_count
counted_at true n b text is few = counted_start (n == 0) n b text refl is few
counted_at false n b text is few = rw is (omega (arith, few n))

few_characters : (n : ℕ) (text : List ℕ) → char_count (take_chars n text) ≤ n
unfolding char_count take_chars
few_characters n [] = omega arith
few_characters n (b ∷ text) = counted_at (is_char_start b) n b text refl (λ m. few_characters m text)

joined_characters : (a b : List ℕ) → char_count (a ++ b) ≡ char_count a + char_count b
unfolding char_count
joined_characters [] b = omega arith
joined_characters (x ∷ a) b = ap (λ (n : ℕ). cond (is_char_start x) 1 0 + n) (joined_characters a b) ∙ omega arith

two_dots : char_count (codes "..") ≡ 2
unfolding char_count
two_dots = refl

short_by : (more : Bool) (text : List ℕ) → nat_lt 60 (char_count text) ≡ more → char_count (cond more (take_chars 60 text ++ codes "..") text) ≤ 62
short_by true text is = omega (arith, joined_characters (take_chars 60 text) (codes ".."), few_characters 60 text, two_dots)
short_by false text is = omega (arith, not_less 60 (char_count text) is)

-- `cut` shortens each text to at most 62 characters, including the two dots at the end of a shortened text.
pub short : (text : List ℕ) → char_count (cut text) ≤ 62
short text = short_by (nat_lt 60 (char_count text)) text refl
