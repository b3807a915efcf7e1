-- Lemmas on lists in which each element differs from the elements before it.
use Rattle.std.proofs.Common.{◌≡◌, ◌<◌, ℕ, zero, suc, Bool, true, false, cond, List, [], ◌∷◌, arith, refl, sym, ap, subst, ◌⊎◌, ◌∙◌}
use mathlib.Core.Logic.{inl, inr}
use Rattle.std.specs.Prelude.{Option, Some, None, Result, Ok, IfOk, take, slice_get}
use Rattle.std.specs.Str.{bytes_eq}
use Rattle.std.proofs.lemmas.Slice.Eq.{bytes_eq-Decides}
use Rattle.scram_types.specs.Specification.{Each, NamesDiffer}
use Rattle.spec_reading.specs.Numbering.{index_named}
use Rattle.spec_reading.proofs.Found.{place_found}
use Rattle.scram_types.specs.Lookups.{number_from, number_named}
use Rattle.scram_doc.specs.Lists.{AllAfter}

-- If a fact about an element and the elements before it implies a property of the element, and each element satisfies
-- the fact, each element has the property.
pub each_of : {A : Type 0} → (Fact : List A → A → Type 0) → (Kept : A → Type 0) → (xs : List A) → ((done : List A) (x : A) → Fact done x → Kept x) → AllAfter Fact xs → Each Kept xs
each_of Fact Kept xs weaker all = λ i x e. weaker (take i xs) x (all i x e)

pub early : (i j : ℕ) (A : Type 0) (xs : List A) (x : A) → i < j → slice_get xs i ≡ Some x → slice_get (take j xs) i ≡ Some x
early i zero A xs x below e = absurd (omega (arith, below))
early i (suc j) A [] x below e = absurd (let none : None ≡ Some x = e in cc)
early zero (suc j) A (y ∷ ys) x below e = e
early (suc i) (suc j) A (y ∷ ys) x below e = early i j A ys x (omega (arith, below)) e

not_here : (b : Bool) (k : ℕ) (o : Option ℕ) → b ≡ true → cond b (Some k) o ≡ None → ⊥
not_here true k o is e = let no_value : Some k ≡ None = e in cc
not_here false k o is e = let wrong : false ≡ true = is in cc

later : (b : Bool) (k : ℕ) (o : Option ℕ) → cond b (Some k) o ≡ None → o ≡ None
later true k o e = absurd (let no_value : Some k ≡ None = e in cc)
later false k o e = e

-- If a search for a name finds no item, no item has the name.
pub nowhere : {A : Type 0} → (name : A → List ℕ) → (k : ℕ) (xs : List A) (i : ℕ) (x : A) (text : List ℕ) → slice_get xs i ≡ Some x → name x ≡ text → number_from name k xs text ≡ None → ⊥
nowhere name k [] i x text e same none = let wrong : None ≡ Some x = e in cc
nowhere name k (y ∷ ys) zero x text e same none =
    let is : Some y ≡ Some x = e in
    let spelled : name y ≡ text = cc in
    not_here (bytes_eq (name y) text) k (number_from name (suc k) ys text) ((bytes_eq-Decides (name y) text).1 spelled) none
nowhere name k (y ∷ ys) (suc i) x text e same none =
    nowhere name (suc k) ys i x text e same (later (bytes_eq (name y) text) k (number_from name (suc k) ys text) none)

pub compare : (i j : ℕ) → (i < j) ⊎ ((i ≡ j) ⊎ (j < i))
compare zero zero = inr (inl refl)
compare zero (suc j) = inl (omega arith)
compare (suc i) zero = inr (inr (omega arith))
compare (suc i) (suc j) = elim (compare i j) [
  | inl below ↦ inl (omega (arith, below))
  | inr rest ↦ elim rest [
    | inl is ↦ inr (inl (ap suc is))
    | inr above ↦ inr (inr (omega (arith, above)))
  ]
]

found_differ : {A : Type 0} → (name : A → List ℕ) → (xs : List A) → AllAfter (λ (done : List A) (x : A). number_named name done (name x) ≡ None) xs → NamesDiffer name xs
found_differ {A} name xs new i j x y there too same = elim (compare i j) [
  | inl below ↦ absurd (nowhere name 0 (take j xs) i x (name y) (early i j A xs x below there) same (new j y too))
  | inr rest ↦ elim rest [
    | inl is ↦ is
    | inr above ↦ absurd (nowhere name 0 (take i xs) j y (name x) (early j i A xs y above too) (sym same) (new i x there))
  ]
]

-- If no element of a list has the name of an element before it, the names of the list differ.
pub new_differ : {A : Type 0} → (name : A → List ℕ) → (xs : List A) → AllAfter (λ (done : List A) (x : A). index_named name done (name x) ≡ None) xs → NamesDiffer name xs
new_differ name xs new = found_differ name xs (λ i x e. sym (place_found name (take i xs) (name x)) ∙ new i x e)

-- If a result is `Ok a`, and the property holds for the value of the result, the property holds for `a`.
pub kept : {A E : Type 0} → (Kept : A → Type 0) (answer : Result A E) (a : A) → answer ≡ Ok a → IfOk answer Kept → Kept a
kept {A} {E} Kept answer a is all = subst (λ (z : Result A E). IfOk z Kept) is all
