-- Lemmas that bound the length of the canonical text of a specification.
use Rattle.std.proofs.Common.{◌≡◌, ◌+◌, ◌*◌, ◌≤◌, ◌<◌, ℕ, zero, suc, Bool, true, false, cond, List, [], ◌∷◌, length, arith, refl}
use Rattle.std.specs.Prelude.{Option, Some, None, ℤ, pos, negsuc, ◌≤ℤ◌, ◌&&◌, nat_le, slice_get}
use Rattle.std.specs.Char.{is_ascii_lowercase}
use Rattle.std.specs.List.{list_all}
use Rattle.std.specs.Option.{option_map_or}
use Rattle.std.proofs.lemmas.Bool.{leb-true}
use Rattle.std.proofs.lemmas.Int.{ints}
use Rattle.std.proofs.lemmas.Fmt.{length-decimal-le, length_signed_le}
use Rattle.std.proofs.Math.Nat.{suc-mul}
use Rattle.serde_json.specs.Data.{Data, Items, Members, null, boolean, number, string, array, object, no_items, item, no_members, member}
use Rattle.serde_json.specs.View.{items_of}
use Rattle.scram_types.specs.Bits.{has_bit}
use Rattle.scram_types.specs.declared.specification.AppSpec.{AppSpec}
use Rattle.scram_types.specs.Names.{is_name, is_name_byte}
use Rattle.scram_types.specs.Numbers.{minus}
use Rattle.scram_types.specs.Specification.{Each}
use Rattle.kind_table.specs.Names.{kind_names, mode_names, name_in, variable_names}
use Rattle.reconf_spec.specs.Texts.{name_of_app_mode, name_of_kind, name_of_mode, name_of_item, name_or_nothing, names_data, name_of_kind_variable, name_of_variable}
use Rattle.scram_doc.specs.Canonical.{count_data, integer_data}
use Rattle.scram_doc.proofs.TextLengths.{escaped_length, exact, items_weight, members_weight, weight}
use Rattle.kind_table.proofs.ShortNames.{AreShort, mode_names_short, variable_names_short}

-- The maximum length of a text in JSON: six bytes for each byte, between two quotes.
abbrev pub widest : List ℕ → ℕ
widest s = 6 * length s + 2

and_last : (a b c : Bool) → (a && b && c) ≡ true → c ≡ true
and_last a b true e = refl
and_last true true false e = e
and_last true false false e = e
and_last false b false e = e

-- A name has at most 16 bytes.
pub name_short : (text : List ℕ) → is_name text ≡ true → length text ≤ 16
name_short [] named = omega arith
name_short (first ∷ rest) named = leb-true (length (first ∷ rest)) 16 (and_last (is_ascii_lowercase first) (list_all is_name_byte rest) (nat_le (length (first ∷ rest)) 16) named)

pub text_short : {A : Type 0} (f : A → List ℕ) (o : Option A) → ((x : A) → o ≡ Some x → length (f x) ≤ 16) → length (option_map_or f o []) ≤ 16
text_short f None each = omega arith
text_short f (Some x) each = each x refl

-- The name of an item with a given number has at most 16 bytes.
pub item_short : {A : Type 0} (name : A → List ℕ) (xs : List A) (n : ℕ) → Each (λ (x : A). is_name (name x) ≡ true) xs → length (name_of_item name xs n) ≤ 16
item_short name xs n named = text_short name (slice_get xs n) (λ x e. name_short (name x) (named n x e))

spelled_short : (names : List (Option (List ℕ))) (n : ℕ) → AreShort names → length (name_or_nothing (name_in names n)) ≤ 16
spelled_short [] n short = omega arith
spelled_short (None ∷ names) zero short = omega arith
spelled_short (Some text ∷ names) zero short = short.0
spelled_short (None ∷ names) (suc n) short = spelled_short names n short
spelled_short (Some text ∷ names) (suc n) short = spelled_short names n short.1

pub kind_short : (kind : ℕ) → length (name_of_kind kind) ≤ 16
kind_short kind = spelled_short kind_names kind (omega arith, (omega arith, (omega arith, (omega arith, (omega arith, (omega arith, tt))))))

pub mode_short : (kind mode : ℕ) → length (name_of_mode kind mode) ≤ 16
mode_short kind mode = spelled_short (mode_names kind) mode (mode_names_short kind)

pub app_mode_short : (apps : List AppSpec) (a mode : ℕ) → length (name_of_app_mode apps a mode) ≤ 16
app_mode_short apps a mode = text_short (λ (app : AppSpec). name_of_mode app.kind.0 mode) (slice_get apps a) (λ app e. mode_short app.kind.0 mode)

pub variable_short : (apps : List AppSpec) (a variable : ℕ) → length (name_of_variable apps a variable) ≤ 16
variable_short apps a variable =
    text_short (λ (app : AppSpec). name_of_kind_variable app.kind.0 variable) (slice_get apps a) (λ app e. spelled_short (variable_names app.kind.0) variable (variable_names_short app.kind.0))

pub count_short : (n : ℕ) → n ≤ 1000000 → weight widest (count_data n) ≤ 7
count_short n few = length-decimal-le 7 n (omega arith) (omega (arith, few)) (omega (arith, few))

pub integer_short : (n : ℤ) → minus 1000000000 ≤ℤ n → n ≤ℤ pos 1000000000 → weight widest (integer_data n) ≤ 11
integer_short (pos n) low high =
    let few : n ≤ 1000000000 = omega (arith, ints, high) in
    let short = length-decimal-le 10 n (omega arith) (omega (arith, few)) (omega (arith, few)) in
    omega (arith, short)
integer_short (negsuc n) low high =
    let few : n < 1000000000 = omega (arith, ints, low) in
    length_signed_le 10 (negsuc n) (omega (arith, few)) (omega (arith, few))

-- Lemmas on the names in a set. Each name takes at most `long` bytes.
names_short_by : (measure : List ℕ → ℕ) (long : ℕ) (b : Bool) (name : List ℕ) (rest : List Data) (most : ℕ) → measure name ≤ long → items_weight measure (items_of rest) ≤ most
    → items_weight measure (items_of (cond b (string name ∷ rest) rest)) ≤ most + (long + 1)
names_short_by measure long true name rest most short few = omega (arith, short, few)
names_short_by measure long false name rest most short few = omega (arith, few)

pub names_short : {A : Type 0} (measure : List ℕ → ℕ) (long : ℕ) (name : A → List ℕ) (set n : ℕ) (xs : List A) → Each (λ (x : A). measure (name x) ≤ long) xs
    → items_weight measure (items_of (names_data name set n xs)) ≤ length xs * (long + 1) + 1
names_short measure long name set n [] each = omega arith
names_short measure long name set n (x ∷ xs) each =
    let rest = names_short measure long name set (suc n) xs (λ i y e. each (suc i) y e) in
    let here = names_short_by measure long (has_bit set n) (name x) (names_data name set (suc n) xs) (length xs * (long + 1) + 1) (each zero x refl) rest in
    let sum : suc (length xs) * (long + 1) ≡ length xs * (long + 1) + (long + 1) = suc-mul (length xs) (long + 1) in
    omega (arith, here, sum)

-- The weight of a value by the exact lengths of its texts is at most its weight by `widest`.
mutual
  pub lighter : (d : Data) → weight exact d ≤ weight widest d
  lighter null = omega arith
  lighter (boolean b) = omega arith
  lighter (number n) = omega arith
  lighter (string s) = escaped_length s
  lighter (array ds) = let rest = items_lighter ds in omega (arith, rest)
  lighter (object ms) = let rest = members_lighter ms in omega (arith, rest)

  pub items_lighter : (ds : Items) → items_weight exact ds ≤ items_weight widest ds
  items_lighter no_items = omega arith
  items_lighter (item d ds) = let here = lighter d in let rest = items_lighter ds in omega (arith, here, rest)

  members_lighter : (ms : Members) → members_weight exact ms ≤ members_weight widest ms
  members_lighter no_members = omega arith
  members_lighter (member k d ms) =
      let name = escaped_length k in
      let here = lighter d in
      let rest = members_lighter ms in
      omega (arith, name, here, rest)
