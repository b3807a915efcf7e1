-- Lemmas on a property that each item of a list has.
use Rattle.std.proofs.Common.{◌≡◌, ℕ, zero, suc, arith, List, [], ◌∷◌, ◌++◌}
use Rattle.std.specs.Prelude.{Option, Some, None, slice_get}
use Rattle.std.proofs.lemmas.Option.{slice_get_within}
use Rattle.scram_types.specs.Specification.{Each}
use Rattle.frame_model.specs.Readings.{as_list}

pub each_append : {A : Type 0} (P : A → Type 0) (xs ys : List A) → Each P xs → Each P ys → (k : ℕ) (y : A) → slice_get (xs ++ ys) k ≡ Some y → P y
each_append P [] ys e f k y h = f k y h
each_append P (x ∷ xs) ys e f zero y h = e 0 y h
each_append P (x ∷ xs) ys e f (suc k) y h = each_append P xs ys (λ i z there. e (suc i) z there) f k y h

pub each_option : {A : Type 0} (P : A → Type 0) (o : Option A) → ((x : A) → o ≡ Some x → P x) → (k : ℕ) (x : A) → slice_get (as_list o) k ≡ Some x → P x
each_option {A} P None h k x e = let past = slice_get_within {A = A} [] k x e in absurd (omega arith)
each_option P (Some y) h zero x e = h x e
each_option {A} P (Some y) h (suc k) x e = let past = slice_get_within {A = A} [] k x e in absurd (omega arith)
