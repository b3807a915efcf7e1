-- Bounds on the length of a value's text. Each byte of a string takes at most six bytes.
use Rattle.std.proofs.Common.{◌≡◌, ◌+◌, ◌*◌, ◌≤◌, ◌<◌, ◌^◌, ◌/◌, ◌%◌, ℕ, suc, Bool, true, false, cond, List, [], ◌∷◌, ◌++◌, length, map, arith, ap, refl}
use Rattle.std.specs.Prelude.{nat_lt, slice_get, Option, Some, None}
use Rattle.std.specs.Option.{option_map_or}
use Rattle.std.specs.Char.{digit_char}
use Rattle.std.specs.List.{list_all}
use Rattle.std.proofs.lemmas.Fmt.{length-decimal-le}
use Rattle.std.proofs.lemmas.List.{length-append}
use Rattle.json.specs.Print.{escape, escape_byte, escape_letter, quoted}
use Rattle.serde_json.specs.Data.{Data, Items, Members, null, boolean, number, string, array, object, no_items, item, no_members, member}
use Rattle.serde_json.specs.View.{items_of}
use Rattle.serde_json.specs.Written.{compact_text, items_text, members_text, number_text}
use Rattle.scram_doc.specs.Canonical.{count_data}
use Rattle.scram_doc.specs.Names.{is_letter_of_name, is_spelled_name}
use Rattle.scram_doc.proofs.QuotedNames.{name_short, quoted_letters, quoted_name}

-- A text of bytes that names may contain is written as its bytes between two quotes.
pub quoted_length : (text : List ℕ) → list_all is_letter_of_name text ≡ true → length (quoted text) ≡ length text + 2
quoted_length text named = omega (arith, ap length (quoted_letters text named), length-append text (34 ∷ []))

-- A name, of at most 16 bytes, is written with at most 18 bytes, including two quotes.
pub name_length : (text : List ℕ) → is_spelled_name text ≡ true → length (quoted text) ≤ 18
name_length text named = omega (arith, ap length (quoted_name text named), length-append text (34 ∷ []), name_short text named)

-- The name of an optional item is written with at most 18 bytes. An item that is not found has no name and is written
-- as two quotes alone.
pub found_length : {A : Type 0} (name : A → List ℕ) (found : Option A) → ((x : A) → found ≡ Some x → is_spelled_name (name x) ≡ true) → length (quoted (option_map_or name found [])) ≤ 18
found_length name None named = omega arith
found_length name (Some x) named = name_length (name x) (named x refl)

choice_short : (a b : Bool) (xs ys zs : List ℕ) → length xs ≤ 6 → length ys ≤ 6 → length zs ≤ 6 → length (cond a xs (cond b ys zs)) ≤ 6
choice_short true b xs ys zs p q r = p
choice_short false true xs ys zs p q r = q
choice_short false false xs ys zs p q r = r

byte_length : (x : ℕ) → length (escape_byte x) ≤ 6
unfolding escape_byte
byte_length x =
    choice_short (nat_lt 0 (escape_letter x)) (nat_lt x 32) (92 ∷ escape_letter x ∷ []) (92 ∷ 117 ∷ 48 ∷ 48 ∷ digit_char (x / 16) ∷ digit_char (x % 16) ∷ []) (x ∷ [])
    (omega arith) (omega arith) (omega arith)

escape_length : (xs : List ℕ) → length (escape xs) ≤ 6 * length xs
escape_length [] = omega arith
escape_length (x ∷ xs) =
    let here = byte_length x in
    let rest = escape_length xs in
    omega (arith, here, rest, length-append (escape_byte x) (escape xs))

-- Any text is written with at most six bytes for each of its bytes, and two quotes.
pub escaped_length : (xs : List ℕ) → length (quoted xs) ≤ 6 * length xs + 2
escaped_length xs = let inside = escape_length xs in omega (arith, inside, length-append (escape xs) (34 ∷ []))

-- The length of the JSON text of a string, including the two quotes.
abbrev pub exact : List ℕ → ℕ
exact text = length (quoted text)

-- A bound on the length of a value's text, given a bound `measure` on the lengths of the texts in it.
abbrev mutual
  pub weight : (List ℕ → ℕ) → Data → ℕ
  weight measure null = 4
  weight measure (boolean b) = 5
  weight measure (number n) = length (number_text n)
  weight measure (string s) = measure s
  weight measure (array ds) = suc (items_weight measure ds)
  weight measure (object ms) = suc (members_weight measure ms)

  pub items_weight : (List ℕ → ℕ) → Items → ℕ
  items_weight measure no_items = 1
  items_weight measure (item d ds) = suc (weight measure d + items_weight measure ds)

  pub members_weight : (List ℕ → ℕ) → Members → ℕ
  members_weight measure no_members = 1
  members_weight measure (member k d ms) = measure k + 2 + weight measure d + members_weight measure ms

-- The measure of each string is at least the length of its JSON text.
abbrev pub Covers : (List ℕ → ℕ) → Type 0
Covers measure = (s : List ℕ) → length (quoted s) ≤ measure s

mutual
  pub no_longer : (measure : List ℕ → ℕ) → Covers measure → (d : Data) → length (compact_text d) ≤ weight measure d
  no_longer measure covers null = omega arith
  no_longer measure covers (boolean true) = omega arith
  no_longer measure covers (boolean false) = omega arith
  no_longer measure covers (number n) = omega arith
  no_longer measure covers (string s) = covers s
  no_longer measure covers (array ds) = let rest = items_no_longer measure covers false ds in omega (arith, rest)
  no_longer measure covers (object ms) = let rest = members_no_longer measure covers false ms in omega (arith, rest)

  items_no_longer : (measure : List ℕ → ℕ) → Covers measure → (later : Bool) (ds : Items) → length (items_text later ds) ≤ items_weight measure ds
  items_no_longer measure covers later no_items = omega arith
  items_no_longer measure covers true (item d ds) =
      let here = no_longer measure covers d in
      let rest = items_no_longer measure covers true ds in
      omega (arith, here, rest, length-append (compact_text d) (items_text true ds))
  items_no_longer measure covers false (item d ds) =
      let here = no_longer measure covers d in
      let rest = items_no_longer measure covers true ds in
      omega (arith, here, rest, length-append (compact_text d) (items_text true ds))

  members_no_longer : (measure : List ℕ → ℕ) → Covers measure → (later : Bool) (ms : Members) → length (members_text later ms) ≤ members_weight measure ms
  members_no_longer measure covers later no_members = omega arith
  members_no_longer measure covers true (member k d ms) =
      let name = covers k in
      let here = no_longer measure covers d in
      let rest = members_no_longer measure covers true ms in
      omega (arith, name, here, rest, length-append (quoted k) (58 ∷ (compact_text d ++ members_text true ms)), length-append (compact_text d) (members_text true ms))
  members_no_longer measure covers false (member k d ms) =
      let name = covers k in
      let here = no_longer measure covers d in
      let rest = members_no_longer measure covers true ms in
      omega (arith, name, here, rest, length-append (quoted k) (58 ∷ (compact_text d ++ members_text true ms)), length-append (compact_text d) (members_text true ms))

pub list_weight : {A : Type 0} (measure : List ℕ → ℕ) (f : A → Data) (most : ℕ) (xs : List A)
    → ((i : ℕ) (x : A) → slice_get xs i ≡ Some x → weight measure (f x) ≤ most) → items_weight measure (items_of (map f xs)) ≤ length xs * (most + 1) + 1
list_weight measure f most [] each = omega arith
list_weight measure f most (x ∷ xs) each =
    let here = each 0 x refl in
    let rest = list_weight measure f most xs (λ i y there. each (suc i) y there) in
    omega (arith, here, rest)

pub number_weight : (measure : List ℕ → ℕ) (digits n : ℕ) → 0 < digits → n < 10 ^ digits → n < 2 ^ 64 → weight measure (count_data n) ≤ digits
number_weight measure digits n some few small = length-decimal-le digits n some few small
