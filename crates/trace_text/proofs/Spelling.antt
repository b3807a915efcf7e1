-- Lemmas on the number that a text spells, and on texts that spell no number.
use Rattle.std.proofs.Common.{ℕ, ℤ, pos, negsuc, ◌≡◌, ◌<◌, ◌≤◌, suc, ◌^◌, ◌∙◌, Bool, true, false, cond, List, [], ◌∷◌, Some, None, Ok, Err, decimal, arith, refl, sym, ap, subst, w64}
use Rattle.std.specs.Fmt.{signed_decimal}
use Rattle.std.specs.Prelude.{nat_lt, ◌&&◌, IsUtf8, bytes_eq}
use Rattle.std.specs.Str.Parse.{digits_value, signed_digits_value, ParsesUnsigned, ParsesSigned, AllDigits}
use Rattle.std.proofs.lemmas.Str.Parse.{digit_from_value}
use Rattle.std.proofs.lemmas.Str.{digit_value_digit, IsUtf8-from_ascii}
use Rattle.std.proofs.lemmas.Fmt.{IsAscii-decimal, IsAscii-signed, decimal_is_IsNumeral, parse-decimal, parse-signed_decimal}
use Rattle.std.proofs.lemmas.Slice.Eq.{bytes_eq-Decides}
use Rattle.std.proofs.lemmas.Bool.{lt-ltb, ltb-true, and_parts, and_from, ne_eqb}
use Rattle.std.specs.declared.num.ParseIntError.{ParseIntError}
use lib.Signed.{mag}
use lib.IntN.{neg_ℤ}
use Rattle.trace_text.specs.Spelling.{signed_of, spelled_signed, spelled_below, spelled_number}
use Rattle.trace_text.proofs.Inversion.{some_says}

none_unless : {A : Type 0} (b : Bool) (x : A) → (b ≡ true → ⊥) → cond b (Some x) None ≡ None
none_unless true x h = absurd (h refl)
none_unless false x h = refl

some_where : {A : Type 0} (b : Bool) (x : A) → b ≡ true → cond b (Some x) None ≡ Some x
some_where true x h = refl
some_where false x h = absurd (let e = h in cc)

spelled_here : (limit n : ℕ) (text : List ℕ) → n < limit → text ≡ decimal n → spelled_below limit n text ≡ Some n
spelled_here limit n text small e =
    some_where (nat_lt n limit && bytes_eq (decimal n) text) n (and_from _ _ (lt-ltb n limit small) ((bytes_eq-Decides (decimal n) text).1 (sym e)))

-- If a text is the printed text of a number below the limit, the text spells the number.
pub number_some : (limit n : ℕ) (text : List ℕ) → n < limit → n < 2 ^ 64 → text ≡ decimal n → spelled_number limit text ≡ Some n
unfolding spelled_number
number_some limit n text small fits e =
    let v : digits_value 10 text ≡ n = rw e (decimal_is_IsNumeral n fits).1 in
    ap (λ (k : ℕ). spelled_below limit k text) v ∙ spelled_here limit n text small e

pub number_spelled : (limit n : ℕ) (text : List ℕ) → spelled_number limit text ≡ Some n → (text ≡ decimal n) × (n < limit)
unfolding spelled_number
number_spelled limit n text h =
    let p = some_says (nat_lt (digits_value 10 text) limit && bytes_eq (decimal (digits_value 10 text)) text) (digits_value 10 text) n h in
    let both = and_parts _ _ p.0 in
    (sym ((bytes_eq-Decides _ _).0 both.1) ∙ ap decimal p.1, rw (← p.1) (ltb-true _ _ both.0))

number_none : (limit : ℕ) (text : List ℕ) → ((n : ℕ) → n < limit → text ≡ decimal n → ⊥) → spelled_number limit text ≡ None
unfolding spelled_number
number_none limit text never =
    none_unless (nat_lt (digits_value 10 text) limit && bytes_eq (decimal (digits_value 10 text)) text) (digits_value 10 text)
    (λ t. let both = and_parts _ _ t in never (digits_value 10 text) (ltb-true _ _ both.0) (sym ((bytes_eq-Decides _ _).0 both.1)))

pub number_utf8 : (limit : ℕ) (text : List ℕ) → limit ≤ 2 ^ 64 → (IsUtf8 text → ⊥) → spelled_number limit text ≡ None
number_utf8 limit text low never = number_none limit text (λ n small is. never (subst IsUtf8 (sym is) (IsUtf8-from_ascii _ (IsAscii-decimal n (omega arith)))))

pub number_err : (limit : ℕ) (text digits : List ℕ) (e : ParseIntError) → limit < 2 ^ 64 → digits ≡ text → ParsesUnsigned 64 10 digits (Err e) → None ≡ spelled_number limit text
number_err limit text digits e low same h = sym (number_none limit text (λ n small is. absurd (let x = parse-decimal 64 n digits (Err e) (omega arith) (omega arith) (same ∙ is) h in cc)))

-- If the parser returns a number that the text does not spell, the text spells no number.
pub number_other : (limit : ℕ) (text digits : List ℕ) (m : ℕ) → limit < 2 ^ 64 → digits ≡ text → ParsesUnsigned {E = ParseIntError} 64 10 digits (Ok m) → (m < limit → decimal m ≡ text → ⊥) → None ≡ spelled_number limit text
number_other limit text digits m low same h never = sym (number_none limit text (λ n small is.
    let x = parse-decimal {E = ParseIntError} 64 n digits (Ok m) (omega arith) (omega arith) (same ∙ is) h in
    let e : m ≡ n = cc in
    never (omega arith) (ap decimal e ∙ sym is)))

-- Lemmas on the values of the printed texts of signed numbers.
unsigned_value : (ds : List ℕ) → AllDigits 10 ds → signed_digits_value 10 ds ≡ pos (digits_value 10 ds)
unsigned_value [] d = refl
unsigned_value (c ∷ cs) d = let k = digit_value_digit c (digit_from_value c d.0) in rw (ne_eqb c 45 (λ e. omega arith), ne_eqb c 43 (λ e. omega arith)) refl

signed_value : (z : ℤ) → mag z < 2 ^ 63 → signed_digits_value 10 (signed_decimal z) ≡ z
signed_value (pos n) small = let k = decimal_is_IsNumeral n (omega arith) in unsigned_value (decimal n) k.0.1 ∙ ap pos k.1
signed_value (negsuc n) small = let k = decimal_is_IsNumeral (suc n) (omega arith) in ap (λ (m : ℕ). neg_ℤ (pos m)) k.1

-- If a text is the printed text of a signed number of 64 bits, the text spells the number.
spelled_signed_here : (z : ℤ) (text : List ℕ) → mag z < 2 ^ 63 → text ≡ signed_decimal z → spelled_signed z text ≡ Some z
spelled_signed_here z text small e =
    some_where (nat_lt (mag z) (2 ^ 63) && bytes_eq (signed_decimal z) text) z (and_from _ _ (lt-ltb _ _ small) ((bytes_eq-Decides (signed_decimal z) text).1 (sym e)))

pub signed_some : (z : ℤ) (text : List ℕ) → mag z < 2 ^ 63 → text ≡ signed_decimal z → signed_of text ≡ Some z
unfolding signed_of
signed_some z text small e =
    let v : signed_digits_value 10 text ≡ z = rw e (signed_value z small) in
    ap (λ (k : ℤ). spelled_signed k text) v ∙ spelled_signed_here z text small e

pub signed_spelled : (z : ℤ) (text : List ℕ) → signed_of text ≡ Some z → text ≡ signed_decimal z
unfolding signed_of
signed_spelled z text h =
    let y = signed_digits_value 10 text in
    let p = some_says (nat_lt (mag y) (2 ^ 63) && bytes_eq (signed_decimal y) text) y z h in
    let both = and_parts _ _ p.0 in
    sym ((bytes_eq-Decides _ _).0 both.1) ∙ ap signed_decimal p.1

signed_none : (text : List ℕ) → ((z : ℤ) → mag z < 2 ^ 63 → text ≡ signed_decimal z → ⊥) → signed_of text ≡ None
unfolding signed_of
signed_none text never =
    let z = signed_digits_value 10 text in
    none_unless (nat_lt (mag z) (2 ^ 63) && bytes_eq (signed_decimal z) text) z
    (λ t. let both = and_parts _ _ t in never z (ltb-true _ _ both.0) (sym ((bytes_eq-Decides _ _).0 both.1)))

pub signed_utf8 : (text : List ℕ) → (IsUtf8 text → ⊥) → signed_of text ≡ None
signed_utf8 text never = signed_none text (λ z small is. never (subst IsUtf8 (sym is) (IsUtf8-from_ascii _ (IsAscii-signed z small))))

pub signed_err : (text digits : List ℕ) (e : ParseIntError) → digits ≡ text → ParsesSigned w64 10 digits (Err e) → signed_of text ≡ None
signed_err text digits e same h = signed_none text (λ z small is. absurd (let x = parse-signed_decimal w64 z digits (Err e) (record { sfits = small }) small (same ∙ is) h in cc))

-- If the parser returns a signed number that the text does not spell, the text spells no signed number.
pub signed_other : (text digits : List ℕ) (y : ℤ) → digits ≡ text → ParsesSigned {E = ParseIntError} w64 10 digits (Ok y) → (signed_decimal y ≡ text → ⊥) → signed_of text ≡ None
signed_other text digits y same h never = signed_none text (λ z small is.
    let x = parse-signed_decimal {E = ParseIntError} w64 z digits (Ok y) (record { sfits = small }) small (same ∙ is) h in
    let e : y ≡ z = cc in
    never (ap signed_decimal e ∙ sym is))
