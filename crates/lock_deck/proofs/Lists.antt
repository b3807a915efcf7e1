-- A property of all elements of a list, after elements are added or replaced.
use Rattle.std.proofs.Common.{◌≡◌, ℕ, List, [], ◌∷◌, ◌++◌, subst, sym}
use Rattle.std.specs.Prelude.{All, IfSome, None, OnOk, Option, Some, Result, Ok, Err, take, drop}
use Rattle.std.proofs.lemmas.List.Elements.{All-append, All-drop, All-push, All-take}

-- If a property holds for all elements of a list, and for one further element if there is one, then it holds for all
-- elements of the longer list.
pub kept : {X : Type 0} (P : X → Type 0) (xs : List X) (o : Option X) (x : X) → o ≡ Some x → IfSome o P → All P xs → All P (xs ++ x ∷ [])
kept P xs None x same one all = cc
kept P xs (Some y) x same one all = let is : y ≡ x = cc in All-push P xs x all (subst P is one)

-- If an optional value can only be `x`, and a property holds for `x`, then it holds for the value.
pub kept_same : {X : Type 0} (P : X → Type 0) (o : Option X) (x : X) → IfSome o (λ y. y ≡ x) → P x → IfSome o P
kept_same P None x is p = tt
kept_same P (Some y) x is p = subst P (sym is) p

-- If a part of a list is replaced, and a property holds for the new part and for the old list, then it holds for the
-- result.
pub lent : {X : Type 0} (P : X → Type 0) (n m : ℕ) (xs ys : List X) → All P xs → All P ys → All P (take n (xs ++ drop m ys))
lent P n m xs ys new old = All-take P n (xs ++ drop m ys) (All-append P xs (drop m ys) new (All-drop P m ys old))

pub on_ok : {A E P Q : Type 0} (r : Result A E) → (P → Q) → OnOk r P → OnOk r Q
on_ok (Ok x) f h = f h
on_ok (Err e) f h = tt
