-- Lemmas on tests of lists, and on the items of lists at their indexes.
use Rattle.std.proofs.Common.{◌≡◌, ℕ, zero, suc, ◌<◌, Bool, true, false, refl, arith, List, [], ◌∷◌, ◌++◌, length, get_or}
use mathlib.Core.Logic.{inl, inr}
use Rattle.std.specs.Prelude.{◌||◌, Some, replicate, slice_get}
use Rattle.std.specs.List.{list_all, list_any}
use Rattle.std.proofs.Math.Bool.{or-true}
use Rattle.std.proofs.lemmas.Option.{slice_get_within}
use Rattle.scram_types.specs.Specification.{Each}
use Rattle.scram_types.proofs.Booleans.{and_left, and_right, or_cases}
use Rattle.scram_types.proofs.Options.{same_some}

-- A list has an item at each index below its length.
pub some_item : {A P : Type 0} (xs : List A) (i : ℕ) → i < length xs → ((x : A) → slice_get xs i ≡ Some x → P) → P
some_item [] i less then = absurd (omega (arith, less))
some_item (x ∷ xs) zero less then = then x refl
some_item (x ∷ xs) (suc i) less then = some_item xs i (omega (arith, less)) then

-- Lemmas on `list_any`, which tests if some item passes.

pub any_found : {A : Type 0} (test : A → Bool) (xs : List A) → list_any test xs ≡ true → (i : ℕ) × (x : A) × (slice_get xs i ≡ Some x) × (test x ≡ true)
any_found test [] h = absurd (cc)
any_found test (x ∷ xs) h = elim (or_cases (test x) (list_any test xs) h) [
  | inl here ↦ (0, x, refl, here)
  | inr later ↦ (let more = any_found test xs later in (suc more.0, more.1, more.2, more.3))
]

pub any_is : {A : Type 0} (test : A → Bool) (xs : List A) (i : ℕ) (x : A) → slice_get xs i ≡ Some x → test x ≡ true → list_any test xs ≡ true
any_is test [] i x e t = let none : i < 0 = slice_get_within [] i x e in absurd (omega arith)
any_is test (y ∷ ys) zero x e t = let same : y ≡ x = same_some y x e in rw (same, t) refl
any_is test (y ∷ ys) (suc i) x e t = rw (any_is test ys i x e t) (or-true (test y))

pub any_same : {A : Type 0} (s t : A → Bool) (xs : List A) → ((x : A) → s x ≡ t x) → list_any s xs ≡ list_any t xs
any_same s t [] is = refl
any_same s t (x ∷ xs) is = rw (is x, any_same s t xs is) refl

pub none_any : {A : Type 0} (test : A → Bool) (xs : List A) → ((x : A) → test x ≡ false) → list_any test xs ≡ false
none_any test [] is = refl
none_any test (x ∷ xs) is = rw (is x, none_any test xs is) refl

or_mixed : (a b c d : Bool) → ((a || b) || (c || d)) ≡ ((a || c) || (b || d))
or_mixed true b c d = refl
or_mixed false true true d = refl
or_mixed false true false d = refl
or_mixed false false true d = refl
or_mixed false false false d = refl

pub any_or : {A : Type 0} (s t : A → Bool) (xs : List A) → list_any (λ x. s x || t x) xs ≡ (list_any s xs || list_any t xs)
any_or s t [] = refl
any_or s t (x ∷ xs) = rw (any_or s t xs) (or_mixed (s x) (t x) (list_any s xs) (list_any t xs))

-- Lemmas on `list_all`, which tests if each item passes.

pub each_passes : {A : Type 0} (test : A → Bool) (xs : List A) → list_all test xs ≡ true → (i : ℕ) (x : A) → slice_get xs i ≡ Some x → test x ≡ true
each_passes test [] h i x e = let none : i < 0 = slice_get_within [] i x e in absurd (omega arith)
each_passes test (y ∷ ys) h zero x e =
    let same : y ≡ x = same_some y x e in
    rw (← same) (and_left (test y) (list_all test ys) h)
each_passes test (y ∷ ys) h (suc i) x e = each_passes test ys (and_right (test y) (list_all test ys) h) i x e

pub all_pass : {A : Type 0} (test : A → Bool) (xs : List A) → ((i : ℕ) (x : A) → slice_get xs i ≡ Some x → test x ≡ true) → list_all test xs ≡ true
all_pass test [] h = refl
all_pass test (x ∷ xs) h = rw (h 0 x refl, all_pass test xs (λ i y e. h (suc i) y e)) refl

-- Lemmas on the items of lists that are joined.

pub first_part : {A : Type 0} (xs ys : List A) (k : ℕ) (x : A) → slice_get xs k ≡ Some x → slice_get (xs ++ ys) k ≡ Some x
first_part {A} [] ys k x h = let past = slice_get_within {A = A} [] k x h in absurd (omega arith)
first_part (y ∷ xs) ys zero x h = h
first_part (y ∷ xs) ys (suc k) x h = first_part xs ys k x h

pub next_part : {A : Type 0} (xs ys : List A) (y : A) → slice_get (xs ++ y ∷ ys) (length xs) ≡ Some y
next_part [] ys y = refl
next_part (x ∷ xs) ys y = next_part xs ys y

pub each_end : {A : Type 0} (Fact : A → Type 0) (xs : List A) (x : A) → Each Fact xs → Fact x → Each Fact (xs ++ x ∷ [])
each_end Fact [] x known new zero y there = let same : x ≡ y = same_some x y there in rw (← same) new
each_end {A} Fact [] x known new (suc i) y there = let none = slice_get_within {A = A} [] i y there in absurd (omega (arith, none))
each_end Fact (first ∷ xs) x known new zero y there = known zero y there
each_end Fact (first ∷ xs) x known new (suc i) y there = each_end Fact xs x (λ k z here. known (suc k) z here) new i y there

-- A list of zeros has 0 at every index, and the default past its end is 0 too.
pub zeros_everywhere : (n x : ℕ) → ◌≡◌ {A = ℕ} (get_or (replicate n 0) x 0) 0
zeros_everywhere zero x = refl
zeros_everywhere (suc n) zero = refl
zeros_everywhere (suc n) (suc x) = zeros_everywhere n x
