-- A text that is a valid name is written unchanged between two quotes.
use Rattle.std.proofs.Common.{◌≡◌, ◌≤◌, ℕ, true, List, [], ◌∷◌, ◌++◌, length, arith, ap, refl}
use Rattle.std.specs.Prelude.{◌&&◌, nat_le, Option, Some, None}
use Rattle.std.specs.Option.{option_map_or}
use Rattle.std.specs.Char.{is_ascii_lowercase}
use Rattle.std.specs.List.{list_all}
use Rattle.std.proofs.lemmas.Bool.{and_parts, leb-true}
use Rattle.std.proofs.lemmas.Bool.Decides.{nat_tests}
use Rattle.json.specs.Print.{escape, escape_byte, quoted}
use Rattle.scram_doc.specs.Names.{is_letter_of_name, is_spelled_name}

byte_as_is : (x : ℕ) → is_letter_of_name x ≡ true → escape_byte x ≡ x ∷ []
unfolding escape_byte
byte_as_is x named = grind (arith, nat_tests)

letters_as_is : (text : List ℕ) → list_all is_letter_of_name text ≡ true → escape text ≡ text
letters_as_is [] named = refl
letters_as_is (x ∷ xs) named =
    let parts = and_parts (is_letter_of_name x) (list_all is_letter_of_name xs) named in
    rw (byte_as_is x parts.0, letters_as_is xs parts.1) refl

pub quoted_letters : (text : List ℕ) → list_all is_letter_of_name text ≡ true → quoted text ≡ 34 ∷ (text ++ 34 ∷ [])
quoted_letters text named = ap (λ (inside : List ℕ). 34 ∷ (inside ++ 34 ∷ [])) (letters_as_is text named)

first_letter : (x : ℕ) → is_ascii_lowercase x ≡ true → is_letter_of_name x ≡ true
first_letter x small = grind (arith, nat_tests)

pub quoted_name : (text : List ℕ) → is_spelled_name text ≡ true → quoted text ≡ 34 ∷ (text ++ 34 ∷ [])
quoted_name [] named = refl
quoted_name (x ∷ xs) named =
    let parts = and_parts (is_ascii_lowercase x && list_all is_letter_of_name xs) (nat_le (length (x ∷ xs)) 16) named in
    let bytes = and_parts (is_ascii_lowercase x) (list_all is_letter_of_name xs) parts.0 in
    let spelled : list_all is_letter_of_name (x ∷ xs) ≡ true = rw (first_letter x bytes.0) bytes.1 in
    quoted_letters (x ∷ xs) spelled

pub name_short : (text : List ℕ) → is_spelled_name text ≡ true → length text ≤ 16
name_short [] named = omega arith
name_short (x ∷ xs) named = leb-true (length (x ∷ xs)) 16 (and_parts (is_ascii_lowercase x && list_all is_letter_of_name xs) (nat_le (length (x ∷ xs)) 16) named).1

pub quoted_found : {A : Type 0} (name : A → List ℕ) (found : Option A) → ((x : A) → found ≡ Some x → is_spelled_name (name x) ≡ true)
    → quoted (option_map_or name found []) ≡ 34 ∷ (option_map_or name found [] ++ 34 ∷ [])
quoted_found name None named = refl
quoted_found name (Some x) named = quoted_name (name x) (named x refl)
