-- Lemmas on the bounds that are required but not given.
use Rattle.std.proofs.Common.{◌≡◌, ◌∙◌, ℕ, zero, suc, ◌+◌, ◌<◌, Bool, true, false, refl, arith, ap, subst, List, [], ◌∷◌, ◌++◌, length}
use Rattle.std.specs.Prelude.{◌==◌, if◌then◌else◌}
use Rattle.std.specs.List.{AllByRecursion}
use mathlib.Core.Logic.{inl, inr}
use Rattle.scram_types.specs.declared.specification.Bound.{Bound}
use Rattle.scram_types.specs.Specification.{Parts}
use Rattle.scram_types.proofs.Booleans.{or_left, or_right, right_false}
use Rattle.scram_types.proofs.Naturals.{below_or_at, differ_test}
use Rattle.fill_form.specs.Filling.{bounds_below, is_bound_missing, least_bound, missing_bound, missing_bounds, missing_from}
use Rattle.fill_form.proofs.Apart.{Apart, all_append, all_weaker, apart_append, gives, gives_append, gives_cons, is_for, is_for_own, none_of}

-- Lemmas on concatenated lists of bounds.

pub below_more : (bounds : ℕ → List Bound) (n : ℕ) → bounds_below bounds (n + 1) ≡ bounds_below bounds n ++ bounds n
below_more bounds n = let same : n + 1 ≡ suc n = omega arith in ap (bounds_below bounds) same

pub all_below : (P : Bound → Type 0) (bounds : ℕ → List Bound) (n : ℕ) → ((k : ℕ) → k < n → AllByRecursion P (bounds k)) → AllByRecursion P (bounds_below bounds n)
all_below P bounds zero each = tt
all_below P bounds (suc n) each = all_append P (bounds_below bounds n) (bounds n) (all_below P bounds n (λ k less. each k (omega (arith, less)))) (each n (omega arith))

-- If two bounds have different keys, they are for different pairs.
abbrev Separates : (Bound → ℕ) → Type 0
Separates key = (x y : Bound) → key x < key y → is_for x.from.0 x.to.0 y ≡ false

apart_below : (key : Bound → ℕ) → Separates key → (bounds : ℕ → List Bound) (n : ℕ) → ((k : ℕ) → Apart (bounds k)) → ((k : ℕ) → AllByRecursion (λ (x : Bound). key x ≡ k) (bounds k))
    → Apart (bounds_below bounds n)
apart_below key tells bounds zero apart keyed = tt
apart_below key tells bounds (suc n) apart keyed =
    apart_append (bounds_below bounds n) (bounds n) (apart_below key tells bounds n apart keyed) (apart n)
    (all_weaker (λ (x : Bound). key x < n) (λ (x : Bound). gives (bounds n) x.from.0 x.to.0 ≡ false) (bounds_below bounds n)
    (λ x low. none_of (bounds n) x.from.0 x.to.0
    (all_weaker (λ (y : Bound). key y ≡ n) (λ (y : Bound). is_for x.from.0 x.to.0 y ≡ false) (bounds n) (λ y at. tells x y (omega (arith, low, at))) (keyed n)))
    (all_below (λ (x : Bound). key x < n) bounds n
    (λ k less. all_weaker (λ (x : Bound). key x ≡ k) (λ (x : Bound). key x < n) (bounds k) (λ x at. omega (arith, at, less)) (keyed k))))

gives_below : (bounds : ℕ → List Bound) (n k i j : ℕ) → k < n → gives (bounds k) i j ≡ true → gives (bounds_below bounds n) i j ≡ true
gives_below bounds zero k i j less some = absurd (omega (arith, less))
gives_below bounds (suc n) k i j less some = gives_append (bounds_below bounds n) (bounds n) i j ∙ elim (below_or_at k n less) [
  | inl earlier ↦ or_left (gives (bounds_below bounds n) i j) (gives (bounds n) i j) (gives_below bounds n k i j earlier some)
  | inr same ↦ or_right (gives (bounds_below bounds n) i j) (gives (bounds n) i j) (subst (λ (m : ℕ). gives (bounds m) i j ≡ true) same some)
]

other_source : Separates (λ (x : Bound). x.from.0)
other_source x y less = rw (differ_test y.from.0 x.from.0 (λ e. omega (arith, less, e))) refl

other_target : Separates (λ (x : Bound). x.to.0)
other_target x y less = right_false (y.from.0 == x.from.0) (y.to.0 == x.to.0) (differ_test y.to.0 x.to.0 (λ e. omega (arith, less, e)))

-- Lemmas on a list of at most one bound.

apart_one : (b : Bool) (x : Bound) → Apart (if b then x ∷ [] else [])
apart_one true x = (refl, tt)
apart_one false x = tt

all_one : (P : Bound → Type 0) (b : Bool) (x : Bound) → (b ≡ true → P x) → AllByRecursion P (if b then x ∷ [] else [])
all_one P true x is = (is refl, tt)
all_one P false x is = tt

gives_one : (b : Bool) (x : Bound) → b ≡ true → gives (if b then x ∷ [] else []) x.from.0 x.to.0 ≡ true
gives_one true x is = gives_cons x [] x.from.0 x.to.0 ∙ or_left (is_for x.from.0 x.to.0 x) false (is_for_own x)
gives_one false x is = absurd (cc)

module _ (spec : Parts) where
  -- If a property holds for the smallest sufficient bound of each pair whose bound is missing, it holds for each
  -- missing bound.
  pub all_missing : (P : Bound → Type 0) → ((i j : ℕ) → i < length spec.confs → j < length spec.confs → is_bound_missing spec i j ≡ true → P (least_bound spec i j)) → AllByRecursion P (missing_bounds spec)
  all_missing P each = all_below P (missing_from spec) (length spec.confs) (λ i left. all_below P (missing_bound spec i) (length spec.confs)
      (λ j right. all_one P (is_bound_missing spec i j) (least_bound spec i j) (each i j left right)))

  apart_from : (i : ℕ) → Apart (missing_from spec i)
  apart_from i = apart_below (λ (x : Bound). x.to.0) other_target (missing_bound spec i) (length spec.confs)
      (λ j. apart_one (is_bound_missing spec i j) (least_bound spec i j))
      (λ j. all_one (λ (x : Bound). x.to.0 ≡ j) (is_bound_missing spec i j) (least_bound spec i j) (λ is. refl))

  pub apart_missing : Apart (missing_bounds spec)
  apart_missing = apart_below (λ (x : Bound). x.from.0) other_source (missing_from spec) (length spec.confs) apart_from
      (λ i. all_below (λ (x : Bound). x.from.0 ≡ i) (missing_bound spec i) (length spec.confs)
      (λ j right. all_one (λ (x : Bound). x.from.0 ≡ i) (is_bound_missing spec i j) (least_bound spec i j) (λ is. refl)))

  pub gives_missing : (i j : ℕ) → i < length spec.confs → j < length spec.confs → is_bound_missing spec i j ≡ true → gives (missing_bounds spec) i j ≡ true
  gives_missing i j left right is =
      gives_below (missing_from spec) (length spec.confs) i i j left
      (gives_below (missing_bound spec i) (length spec.confs) j i j right (gives_one (is_bound_missing spec i j) (least_bound spec i j) is))
