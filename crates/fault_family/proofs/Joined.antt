-- Lemmas on the elements that joined and mapped lists contain.
use Rattle.std.proofs.Common.{◌≡◌, ◌∙◌, ℕ, zero, suc, ◌+◌, ◌<◌, Bool, true, false, List, [], ◌∷◌, ◌++◌, length, map, arith, ap, refl, sym, subst}
use mathlib.Core.Logic.{inl, inr}
use Rattle.std.specs.Prelude.{◌⊎◌, Some, flat_map, option_map, slice_get, if◌then◌else◌}
use Rattle.std.proofs.lemmas.Option.{same_Some, slice_get-map, slice_get_within}
use Rattle.scram_types.proofs.Items.{first_part}
use Rattle.scram_types.proofs.Searches.{get_listed, length_listed}
use Rattle.scram_types.specs.Searches.{listed_below}
use Rattle.fault_family.specs.Laws.{Contains}
use Rattle.fault_family.proofs.Cells.{second_part}

pub stands_left : {A : Type 0} (xs ys : List A) (x : A) → Contains xs x → Contains (xs ++ ys) x
stands_left xs ys x stands = (stands.0, first_part xs ys stands.0 x stands.1)

pub stands_right : {A : Type 0} (xs ys : List A) (x : A) → Contains ys x → Contains (xs ++ ys) x
stands_right xs ys x stands = (length xs + stands.0, second_part xs ys stands.0 ∙ stands.1)

stands_part_at : {A : Type 0} (xs ys : List A) (i : ℕ) (x : A) → slice_get (xs ++ ys) i ≡ Some x → Contains xs x ⊎ Contains ys x
stands_part_at [] ys i x there = inr (i, there)
stands_part_at (y ∷ xs) ys zero x there = inl (0, there)
stands_part_at (y ∷ xs) ys (suc i) x there = elim (stands_part_at xs ys i x there) [ inl first ↦ inl (suc first.0, first.1) | inr second ↦ inr second ]

pub stands_part : {A : Type 0} (xs ys : List A) (x : A) → Contains (xs ++ ys) x → Contains xs x ⊎ Contains ys x
stands_part xs ys x stands = stands_part_at xs ys stands.0 x stands.1

pub stands_in_part : {A B : Type 0} (f : A → List B) (xs : List A) (y : B) → Contains (flat_map f xs) y → (x : A) × Contains xs x × Contains (f x) y
stands_in_part f [] y stands = absurd (let none = stands.1 in cc)
stands_in_part f (x ∷ xs) y stands = elim (stands_part (f x) (flat_map f xs) y stands) [
  | inl here ↦ (x, (0, refl), here)
  | inr further ↦ (let found = stands_in_part f xs y further in (found.0, (suc found.1.0, found.1.1), found.2))
]

in_part_stands_at : {A B : Type 0} (f : A → List B) (xs : List A) (i : ℕ) (x : A) (y : B) → slice_get xs i ≡ Some x → Contains (f x) y → Contains (flat_map f xs) y
in_part_stands_at f [] i x y there stands = absurd cc
in_part_stands_at f (z ∷ xs) zero x y there stands = stands_left (f z) (flat_map f xs) y (subst (λ w. Contains (f w) y) (sym (same_Some z x there)) stands)
in_part_stands_at f (z ∷ xs) (suc i) x y there stands = stands_right (f z) (flat_map f xs) y (in_part_stands_at f xs i x y there stands)

pub in_part_stands : {A B : Type 0} (f : A → List B) (xs : List A) (x : A) (y : B) → Contains xs x → Contains (f x) y → Contains (flat_map f xs) y
in_part_stands f xs x y there stands = in_part_stands_at f xs there.0 x y there.1 stands

pub stands_one : {A : Type 0} (x y : A) → Contains (x ∷ []) y → x ≡ y
stands_one x y stands = at stands.0 stands.1
  where
    at : (i : ℕ) → slice_get (x ∷ []) i ≡ Some y → x ≡ y
    at zero there = same_Some x y there
    at (suc i) there = absurd cc

pub stands_where : {A : Type 0} (b : Bool) (xs : List A) (x : A) → Contains (if b then xs else []) x → (b ≡ true) × Contains xs x
stands_where true xs x stands = (refl, stands)
stands_where false xs x stands = absurd (let none = stands.1 in cc)

mapped_at : {A B : Type 0} (f : A → B) (xs : List A) (i : ℕ) (y : B) → slice_get (map f xs) i ≡ Some y → (x : A) × (slice_get xs i ≡ Some x) × (f x ≡ y)
mapped_at f [] i y there = absurd cc
mapped_at f (x ∷ xs) zero y there = (x, refl, same_Some (f x) y there)
mapped_at f (x ∷ xs) (suc i) y there = mapped_at f xs i y there

pub stands_mapped : {A B : Type 0} (f : A → B) (xs : List A) (y : B) → Contains (map f xs) y → (x : A) × Contains xs x × (f x ≡ y)
stands_mapped f xs y stands = let found = mapped_at f xs stands.0 y stands.1 in (found.0, (stands.0, found.1), found.2)

pub mapped_stands : {A B : Type 0} (f : A → B) (xs : List A) (x : A) → Contains xs x → Contains (map f xs) (f x)
mapped_stands f xs x stands = (stands.0, slice_get-map f xs stands.0 ∙ ap (option_map f) stands.1)

pub listed_stands : {A : Type 0} (value : ℕ → A) (n k : ℕ) → k < n → Contains (listed_below value n) (value k)
listed_stands value n k below = (k, get_listed value n k below)

pub stands_listed : {A : Type 0} (value : ℕ → A) (n : ℕ) (x : A) → Contains (listed_below value n) x → (k : ℕ) × (k < n) × (value k ≡ x)
stands_listed value n x stands =
    let within = slice_get_within (listed_below value n) stands.0 x stands.1 in
    let count = length_listed value n in
    let below : stands.0 < n = omega (arith, within, count) in
    (stands.0, below, same_Some (value stands.0) x (sym (get_listed value n stands.0 below) ∙ stands.1))
