-- Lists of bounds in which no two bounds are for the same pair of configurations.
use Rattle.std.proofs.Common.{◌≡◌, ◌∙◌, ℕ, zero, suc, ◌+◌, ◌*◌, ◌<◌, ◌≤◌, Bool, true, false, refl, arith, ap, sym, subst, List, [], ◌∷◌, ◌++◌, length, map}
use Rattle.std.specs.Prelude.{Option, Some, ⊤, is_some, take, ◌==◌, ◌&&◌, ◌||◌, if◌then◌else◌}
use Rattle.std.specs.List.{AllByRecursion, IsDistinct, list_any}
use mathlib.Core.Logic.{inl, inr}
use Rattle.std.proofs.Math.Bool.{or_assoc}
use Rattle.std.proofs.lemmas.Map.Steps.{length-le_from_distinct_below}
use Rattle.std.proofs.lemmas.List.{length-map}
use Rattle.scram_types.specs.declared.specification.Bound.{Bound}
use Rattle.scram_types.specs.Specification.{Each, bound_in}
use Rattle.scram_types.proofs.Booleans.{and_left, and_right, and_true, by_bool, or_cases, or_false, or_left, or_right, true_false}
use Rattle.scram_types.proofs.Naturals.{equal, equal_test}
use Rattle.scram_types.proofs.Options.{same_some}
use Rattle.spec_reading.specs.Writable.{lists_pair}
use Rattle.spec_reading.specs.Kept.{NoDuplicates}

-- Whether a bound is for the pair of configurations `i` and `j`.
abbrev pub is_for : ℕ → ℕ → Bound → Bool
is_for i j bound = bound.from.0 == i && bound.to.0 == j

-- Whether some bound of a list is for the pair of configurations `i` and `j`.
abbrev pub gives : List Bound → ℕ → ℕ → Bool
gives bounds i j = is_some (bound_in bounds i j)

-- No two bounds of the list are for the same pair.
abbrev pub Apart : List Bound → Type 0
Apart [] = ⊤
Apart (x ∷ xs) = (gives xs x.from.0 x.to.0 ≡ false) × Apart xs

chosen : (b : Bool) (t : ℕ) (o : Option ℕ) → is_some (if b then Some t else o) ≡ (b || is_some o)
chosen true t o = refl
chosen false t o = refl

pub gives_cons : (x : Bound) (xs : List Bound) (i j : ℕ) → gives (x ∷ xs) i j ≡ (is_for i j x || gives xs i j)
gives_cons x xs i j = chosen (is_for i j x) x.frames (bound_in xs i j)

pub gives_append : (xs ys : List Bound) (i j : ℕ) → gives (xs ++ ys) i j ≡ (gives xs i j || gives ys i j)
gives_append [] ys i j = refl
gives_append (x ∷ xs) ys i j =
    gives_cons x (xs ++ ys) i j ∙ ap (λ (b : Bool). is_for i j x || b) (gives_append xs ys i j)
    ∙ sym (or_assoc (is_for i j x) (gives xs i j) (gives ys i j)) ∙ ap (λ (b : Bool). b || gives ys i j) (sym (gives_cons x xs i j))

-- Lemmas on a property of each bound of a list.

pub all_weaker : (P Q : Bound → Type 0) (xs : List Bound) → ((x : Bound) → P x → Q x) → AllByRecursion P xs → AllByRecursion Q xs
all_weaker P Q [] turn all = tt
all_weaker P Q (x ∷ xs) turn all = (turn x all.0, all_weaker P Q xs turn all.1)

pub all_append : (P : Bound → Type 0) (xs ys : List Bound) → AllByRecursion P xs → AllByRecursion P ys → AllByRecursion P (xs ++ ys)
all_append P [] ys one two = two
all_append P (x ∷ xs) ys one two = (one.0, all_append P xs ys one.1 two)

pub all_of_each : (P : Bound → Type 0) (xs : List Bound) → Each P xs → AllByRecursion P xs
all_of_each P [] each = tt
all_of_each P (x ∷ xs) each = (each 0 x refl, all_of_each P xs (λ i y there. each (suc i) y there))

pub each_of_all : (P : Bound → Type 0) (xs : List Bound) → AllByRecursion P xs → Each P xs
each_of_all P [] all i x there = absurd (cc)
each_of_all P (y ∷ ys) all zero x there = subst P (same_some y x there) all.0
each_of_all P (y ∷ ys) all (suc i) x there = each_of_all P ys all.1 i x there

pub none_of : (xs : List Bound) (i j : ℕ) → AllByRecursion (λ (x : Bound). is_for i j x ≡ false) xs → gives xs i j ≡ false
none_of [] i j all = refl
none_of (x ∷ xs) i j all = gives_cons x xs i j ∙ rw (all.0, none_of xs i j all.1) refl

pub all_of_none : (xs : List Bound) (i j : ℕ) → gives xs i j ≡ false → AllByRecursion (λ (x : Bound). is_for i j x ≡ false) xs
all_of_none [] i j none = tt
all_of_none (x ∷ xs) i j none =
    let both : (is_for i j x || gives xs i j) ≡ false = sym (gives_cons x xs i j) ∙ none in
    ((or_false (is_for i j x) (gives xs i j) both).0, all_of_none xs i j (or_false (is_for i j x) (gives xs i j) both).1)

pub is_for_own : (x : Bound) → is_for x.from.0 x.to.0 x ≡ true
is_for_own x = and_true _ _ (equal_test x.from.0 x.from.0 refl) (equal_test x.to.0 x.to.0 refl)

-- Each bound of a list is for a pair for which the list has a bound.
pub gives_own : (xs : List Bound) → AllByRecursion (λ (x : Bound). gives xs x.from.0 x.to.0 ≡ true) xs
gives_own [] = tt
gives_own (x ∷ xs) = (
  gives_cons x xs x.from.0 x.to.0 ∙ or_left (is_for x.from.0 x.to.0 x) (gives xs x.from.0 x.to.0) (is_for_own x),
  all_weaker (λ (y : Bound). gives xs y.from.0 y.to.0 ≡ true) (λ (y : Bound). gives (x ∷ xs) y.from.0 y.to.0 ≡ true) xs
      (λ y e. gives_cons x xs y.from.0 y.to.0 ∙ or_right (is_for y.from.0 y.to.0 x) (gives xs y.from.0 y.to.0) e) (gives_own xs),
)

pub apart_append : (xs ys : List Bound) → Apart xs → Apart ys → AllByRecursion (λ (x : Bound). gives ys x.from.0 x.to.0 ≡ false) xs → Apart (xs ++ ys)
apart_append [] ys one two other = two
apart_append (x ∷ xs) ys one two other = (
  gives_append xs ys x.from.0 x.to.0 ∙ rw (one.0, other.0) refl,
  apart_append xs ys one.1 two other.1,
)

-- If bound `y` is not for the pair of bound `x`, then `x` is not for the pair of `y`.
turned : (x y : Bound) → is_for x.from.0 x.to.0 y ≡ false → is_for y.from.0 y.to.0 x ≡ false
turned x y none = by_bool (is_for y.from.0 y.to.0 x) (λ t.
    let from : x.from.0 ≡ y.from.0 = equal x.from.0 y.from.0 (and_left _ _ t) in
    let to : x.to.0 ≡ y.to.0 = equal x.to.0 y.to.0 (and_right _ _ t) in
    true_false (is_for x.from.0 x.to.0 y) (and_true _ _ (equal_test y.from.0 x.from.0 (sym from)) (equal_test y.to.0 x.to.0 (sym to))) none) (λ f. f)

-- No two bounds of a list are for the same pair if and only if the list has no duplicates by `lists_pair`.

tail_new : (x : Bound) (xs : List Bound) → NoDuplicates lists_pair (x ∷ xs) → NoDuplicates lists_pair xs
tail_new x xs new i y there =
    (or_false (is_for y.from.0 y.to.0 x) (gives (take i xs) y.from.0 y.to.0) (sym (gives_cons x (take i xs) y.from.0 y.to.0) ∙ new (suc i) y there)).1

head_new : (x : Bound) (xs : List Bound) → NoDuplicates lists_pair (x ∷ xs) → Each (λ (y : Bound). is_for x.from.0 x.to.0 y ≡ false) xs
head_new x xs new i y there =
    turned y x (or_false (is_for y.from.0 y.to.0 x) (gives (take i xs) y.from.0 y.to.0) (sym (gives_cons x (take i xs) y.from.0 y.to.0) ∙ new (suc i) y there)).0

pub apart_of_new : (xs : List Bound) → NoDuplicates lists_pair xs → Apart xs
apart_of_new [] new = tt
apart_of_new (x ∷ xs) new = (
  none_of xs x.from.0 x.to.0 (all_of_each (λ (y : Bound). is_for x.from.0 x.to.0 y ≡ false) xs (head_new x xs new)),
  apart_of_new xs (tail_new x xs new),
)

pub new_of_apart : (xs : List Bound) → Apart xs → NoDuplicates lists_pair xs
new_of_apart [] apart i y there = absurd (cc)
new_of_apart (x ∷ xs) apart zero y there = refl
new_of_apart (x ∷ xs) apart (suc i) y there =
    let other = turned x y (each_of_all (λ (z : Bound). is_for x.from.0 x.to.0 z ≡ false) xs (all_of_none xs x.from.0 x.to.0 apart.0) i y there) in
    gives_cons x (take i xs) y.from.0 y.to.0 ∙ rw (other, new_of_apart xs apart.1 i y there) refl

-- Lemmas that a list of bounds for different pairs of configurations has at most 144 bounds.

-- Both configurations of a bound have indices below 12.
abbrev pub IsNear : Bound → Type 0
IsNear x = (x.from.0 < 12) × (x.to.0 < 12)

abbrev pub pair_number : Bound → ℕ
pair_number x = x.from.0 * 12 + x.to.0

other_number : (x y : Bound) → IsNear x → IsNear y → is_for x.from.0 x.to.0 y ≡ false → (pair_number x == pair_number y) ≡ false
other_number x y near also none = by_bool (pair_number x == pair_number y) (λ t.
    let same : pair_number x ≡ pair_number y = equal (pair_number x) (pair_number y) t in
    let x_to = near.1 in
    let y_to = also.1 in
    let from : y.from.0 ≡ x.from.0 = omega (arith, same, x_to, y_to) in
    let to : y.to.0 ≡ x.to.0 = omega (arith, same, x_to, y_to) in
    true_false (is_for x.from.0 x.to.0 y) (and_true _ _ (equal_test y.from.0 x.from.0 from) (equal_test y.to.0 x.to.0 to)) none) (λ f. f)

other_numbers : (x : Bound) (xs : List Bound) → IsNear x → AllByRecursion IsNear xs → AllByRecursion (λ (y : Bound). is_for x.from.0 x.to.0 y ≡ false) xs
    → AllByRecursion (λ (q : ℕ). (pair_number x == q) ≡ false) (map pair_number xs)
other_numbers x [] near all none = tt
other_numbers x (y ∷ ys) near all none = (other_number x y near all.0 none.0, other_numbers x ys near all.1 none.1)

numbers_distinct : (xs : List Bound) → Apart xs → AllByRecursion IsNear xs → IsDistinct (λ (p q : ℕ). p == q) (map pair_number xs)
unfolding IsDistinct
numbers_distinct [] apart near = tt
numbers_distinct (x ∷ xs) apart near =
    (other_numbers x xs near.0 near.1 (all_of_none xs x.from.0 x.to.0 apart.0), numbers_distinct xs apart.1 near.1)

numbers_below : (xs : List Bound) → AllByRecursion IsNear xs → (q : ℕ) → list_any (λ (p : ℕ). q == p) (map pair_number xs) ≡ true → q < 144
numbers_below [] near q some = absurd (cc)
numbers_below (x ∷ xs) near q some = elim (or_cases (q == pair_number x) (list_any (λ (p : ℕ). q == p) (map pair_number xs)) some) [
  | inl same ↦ (let is = equal q (pair_number x) same in let from = near.0.0 in let to = near.0.1 in omega (arith, is, from, to))
  | inr rest ↦ numbers_below xs near.1 q rest
]

-- A list in which no two bounds are for the same pair has at most 144 bounds, which is the number of pairs.
pub apart_few : (xs : List Bound) → Apart xs → AllByRecursion IsNear xs → length xs ≤ 144
apart_few xs apart near =
    let few = length-le_from_distinct_below (map pair_number xs) 144 (numbers_distinct xs apart near) (numbers_below xs near) in
    let same = length-map xs pair_number in omega (arith, few, same)
