-- Lemmas on a property of each element of concatenated lists.
use Rattle.std.proofs.Common.{ℕ, zero, suc, ◌<◌, ◌≡◌, Bool, true, false, List, [], ◌∷◌, ◌++◌, take, arith, subst, refl}
use Rattle.std.specs.Prelude.{Option, Some, None, option_map, if◌then◌else◌}
use Rattle.std.specs.Option.{option_to_list}
use Rattle.std.proofs.lemmas.Option.{slice_get_within}
use Rattle.scram_types.specs.Specification.{Each}
use Rattle.scram_types.proofs.Options.{same_some}
use Rattle.coverage_check.specs.Search.{shown_if}
use Rattle.condition_breaks.specs.Lists.{gathered_below, one_if}

module _ {A : Type 0} (F : A → Type 0) where
  pub each_none : Each F []
  each_none i x there = let past = slice_get_within {A = A} [] i x there in absurd (omega (arith, past))

  pub each_cons : (x : A) (xs : List A) → F x → Each F xs → Each F (x ∷ xs)
  each_cons x xs here rest zero y there = subst F (same_some x y there) here
  each_cons x xs here rest (suc i) y there = rest i y there

  pub each_rest : (x : A) (xs : List A) → Each F (x ∷ xs) → Each F xs
  each_rest x xs each i y there = each (suc i) y there

  pub each_both : (xs ys : List A) → Each F xs → Each F ys → Each F (xs ++ ys)
  each_both [] ys first second = second
  each_both (x ∷ xs) ys first second = each_cons x (xs ++ ys) (first 0 x refl) (each_both xs ys (each_rest x xs first) second)

  pub each_first : (n : ℕ) (xs : List A) → Each F xs → Each F (take n xs)
  each_first zero xs each = each_none
  each_first (suc n) [] each = each_none
  each_first (suc n) (x ∷ xs) each = each_cons x (take n xs) (each 0 x refl) (each_first n xs (each_rest x xs each))

  pub each_gathered : (items : ℕ → List A) (n : ℕ) → ((k : ℕ) → k < n → Each F (items k)) → Each F (gathered_below items n)
  each_gathered items zero each = each_none
  each_gathered items (suc n) each =
      each_both (gathered_below items n) (items n) (each_gathered items n (λ k less. each k (omega (arith, less)))) (each n (omega arith))

  pub each_if : (b : Bool) (xs ys : List A) → Each F xs → Each F ys → Each F (if b then xs else ys)
  each_if true xs ys first second = first
  each_if false xs ys first second = second

  pub each_one : (x : A) → F x → Each F (x ∷ [])
  each_one x here = each_cons x [] here each_none

  pub each_one_if : (b : Bool) (x : A) → F x → Each F (one_if b x)
  each_one_if b x here = each_if b (x ∷ []) [] (each_one x here) each_none

  pub each_where : (b : Bool) (x : A) → (b ≡ true → F x) → Each F (one_if b x)
  each_where true x here = each_one x (here refl)
  each_where false x here = each_none

  pub each_shown_where : (b : Bool) (x : A) → (b ≡ true → F x) → Each F (option_to_list (shown_if b x))
  each_shown_where true x here = each_one x (here refl)
  each_shown_where false x here = each_none

  pub each_shown_if : (b : Bool) (x : A) → F x → Each F (option_to_list (shown_if b x))
  each_shown_if true x here = each_one x here
  each_shown_if false x here = each_none

  pub each_mapped : {B : Type 0} (f : B → A) (o : Option B) → ((v : B) → o ≡ Some v → F (f v)) → Each F (option_to_list (option_map f o))
  each_mapped f None each = each_none
  each_mapped f (Some v) each = each_one (f v) (each v refl)
