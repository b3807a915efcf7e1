-- A fact about the items of a list still holds after another item is appended.
use Rattle.std.proofs.Common.{◌≡◌, ◌<◌, ◌+◌, ◌-◌, ℕ, zero, suc, List, [], ◌∷◌, ◌++◌, length, arith, refl, ap, ◌∙◌, sym, subst}
use Rattle.std.specs.Prelude.{Some, slice_get}
use Rattle.std.proofs.lemmas.Option.{same_Some}
use Rattle.scram_types.specs.Specification.{Each}
use Rattle.fault_script.specs.Fits.{EachLater, EachNext}
use Rattle.fault_script.specs.Orders.{last_of}

-- An item of a list to which an item was appended is an earlier item or the appended one.
pub data Place {A : Type 0} (xs : List A) (x : A) (i : ℕ) (y : A) : Type 0 where
  before : slice_get xs i ≡ Some y → i < length xs → Place xs x i y
  end : i ≡ length xs → y ≡ x → Place xs x i y

deeper : {A : Type 0} (x z : A) (xs : List A) (i : ℕ) (y : A) → Place xs x i y → Place (z ∷ xs) x (suc i) y
deeper x z xs i y (before there less) = before there (omega (arith, less))
deeper x z xs i y (end at same) = end (ap suc at) same

pub place_of : {A : Type 0} (xs : List A) (x : A) (i : ℕ) (y : A) → slice_get (xs ++ x ∷ []) i ≡ Some y → Place xs x i y
place_of [] x zero y e = end refl (sym (same_Some x y e))
place_of [] x (suc i) y e = absurd cc
place_of (z ∷ xs) x zero y e = before e (omega arith)
place_of (z ∷ xs) x (suc i) y e = deeper x z xs i y (place_of xs x i y e)

later_end : {A : Type 0} (R : A → A → Type 0) (xs : List A) (x : A) → EachLater R xs → ((i : ℕ) (y : A) → slice_get xs i ≡ Some y → R y x)
    → (i j : ℕ) (y z : A) → i < j → Place xs x i y → Place xs x j z → R y z
later_end R xs x each last i j y z less (before p _) (before q _) = each i j y z less p q
later_end R xs x each last i j y z less (before p _) (end _ same) = subst (R y) (sym same) (last i y p)
later_end R xs x each last i j y z less (end at _) (before _ within) = absurd (omega (arith, at, within, less))
later_end R xs x each last i j y z less (end at _) (end at_last _) = absurd (omega (arith, at, at_last, less))

pub each_later_end : {A : Type 0} (R : A → A → Type 0) (xs : List A) (x : A) → EachLater R xs → ((i : ℕ) (y : A) → slice_get xs i ≡ Some y → R y x) → EachLater R (xs ++ x ∷ [])
each_later_end R xs x each last i j y z less p q = later_end R xs x each last i j y z less (place_of xs x i y p) (place_of xs x j z q)

next_end : {A : Type 0} (R : A → A → Type 0) (xs : List A) (x : A) → EachNext R xs → ((y : A) → last_of xs ≡ Some y → R y x)
    → (i : ℕ) (y z : A) → Place xs x i y → Place xs x (i + 1) z → R y z
next_end R xs x each last i y z (before p _) (before q _) = each i y z p q
next_end R xs x each last i y z (before p _) (end at same) =
    let place : i ≡ length xs - 1 = omega (arith, at) in
    subst (R y) (sym same) (last y (ap (slice_get xs) (sym place) ∙ p))
next_end R xs x each last i y z (end at _) (before _ within) = absurd (omega (arith, at, within))
next_end R xs x each last i y z (end at _) (end at_last _) = absurd (omega (arith, at, at_last))

pub each_next_end : {A : Type 0} (R : A → A → Type 0) (xs : List A) (x : A) → EachNext R xs → ((y : A) → last_of xs ≡ Some y → R y x) → EachNext R (xs ++ x ∷ [])
each_next_end R xs x each last i y z p q = next_end R xs x each last i y z (place_of xs x i y p) (place_of xs x (i + 1) z q)

pub each_none : {A : Type 0} (Fact : A → Type 0) → Each Fact []
each_none Fact i x e = absurd cc

pub each_next_none : {A : Type 0} (R : A → A → Type 0) → EachNext R []
each_next_none R i x y e f = absurd cc

pub each_later_none : {A : Type 0} (R : A → A → Type 0) → EachLater R []
each_later_none R i j x y less e f = absurd cc

pub each_later_one : {A : Type 0} (R : A → A → Type 0) (x : A) → EachLater R (x ∷ [])
each_later_one R x i zero y z less p q = absurd (omega (arith, less))
each_later_one R x i (suc j) y z less p q = absurd cc
