-- `==` on two arrays of numbers is `true` if and only if the arrays are equal.
use Rattle.std.proofs.Common.{◌≡◌, ℕ, ℤ, Bool, List, eqb, refl}
use Rattle.std.specs.Bool.{Decides}
use Rattle.std.specs.Ordering.{int_eq}
use Rattle.std.specs.Cmp.Lexicographic.{pointwise}
use Rattle.std.proofs.lemmas.Bool.Decides.{Decides-int_eq, Decides-eqb}
use Rattle.std.proofs.lemmas.Slice.Eq.{slice_eq-Decides}

pub numbers_same : (xs ys : List ℤ) (r : Bool) → r ≡ pointwise int_eq xs ys → Decides r (xs ≡ ys)
numbers_same xs ys r e = slice_eq-Decides Decides-int_eq xs ys r e

areas_same : (xs ys : List ℤ) → Decides (pointwise int_eq xs ys) (xs ≡ ys)
areas_same xs ys = slice_eq-Decides Decides-int_eq xs ys _ refl

pub leads_same : (xs ys : List (List ℤ)) (r : Bool) → r ≡ pointwise (pointwise int_eq) xs ys → Decides r (xs ≡ ys)
leads_same xs ys r e = slice_eq-Decides areas_same xs ys r e

pub bytes_same : (xs ys : List ℕ) (r : Bool) → r ≡ pointwise eqb xs ys → Decides r (xs ≡ ys)
bytes_same xs ys r e = slice_eq-Decides Decides-eqb xs ys r e
