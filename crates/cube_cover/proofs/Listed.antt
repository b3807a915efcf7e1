-- Lists to which an item is added.
use Rattle.std.proofs.Common.{◌≡◌, ◌∙◌, ℕ, zero, suc, ◌+◌, ap, arith, refl, subst, sym, List, [], ◌∷◌, ◌++◌, length}
use mathlib.Core.Logic.{inl, inr}
use Rattle.std.specs.Prelude.{◌⊎◌, slice_get, Some}
use Rattle.scram_types.proofs.Options.{same_some}

get_last : {A : Type 0} (xs : List A) (x y : A) (k : ℕ) → slice_get (xs ++ x ∷ []) k ≡ Some y → (slice_get xs k ≡ Some y) ⊎ ((k ≡ length xs) × (x ≡ y))
get_last [] x y zero e = inr (refl, same_some x y e)
get_last [] x y (suc k) e = absurd (cc)
get_last (z ∷ zs) x y zero e = inl e
get_last (z ∷ zs) x y (suc k) e = elim (get_last zs x y k e) [ inl before ↦ inl before | inr last ↦ inr (ap suc last.0, last.1) ]

length_last : {A : Type 0} (xs : List A) (x : A) → length (xs ++ x ∷ []) ≡ length xs + 1
length_last [] x = refl
length_last (y ∷ ys) x = let before = length_last ys x in omega (arith, before)

-- If a fact holds for each item of a list by its index, and for an added item, it holds for each item of the longer
-- list.
pub each_more : {A : Type 0} (Fact : ℕ → A → Type 0) (before after : List A) (n : ℕ) (x : A) → after ≡ before ++ x ∷ [] → length before ≡ n
    → ((k : ℕ) (y : A) → slice_get before k ≡ Some y → Fact k y) → Fact n x → (k : ℕ) (y : A) → slice_get after k ≡ Some y → Fact k y
each_more {A} Fact before after n x is count each last k y there =
    elim (get_last before x y k (subst (λ (xs : List A). slice_get xs k ≡ Some y) is there)) [
      | inl earlier ↦ each k y earlier
      | inr same ↦ subst (λ (j : ℕ). Fact j y) (sym (same.0 ∙ count)) (subst (Fact n) same.1 last)
    ]

pub length_more : {A : Type 0} (before after : List A) (n : ℕ) (x : A) → after ≡ before ++ x ∷ [] → length before ≡ n → length after ≡ n + 1
length_more before after n x is count = ap length is ∙ length_last before x ∙ ap (λ (m : ℕ). m + 1) count
