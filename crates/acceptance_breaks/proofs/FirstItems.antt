-- Lemmas on the first items of a list.
use Rattle.std.proofs.Common.{ℕ, zero, suc, ◌≡◌, List, [], ◌∷◌, ap, arith, length, min, refl, take}

-- The first `n` items of a list remain the same if `n` is limited to the length of the list.
pub take_few : {A : Type 0} (xs : List A) (n : ℕ) → take (min (length xs) n) xs ≡ take n xs
take_few [] zero = refl
take_few [] (suc n) = let none : min 0 (suc n) ≡ 0 = grind arith in rw none refl
take_few (x ∷ xs) zero = let none : min (suc (length xs)) 0 ≡ 0 = grind arith in rw none refl
take_few (x ∷ xs) (suc n) =
    let less : min (suc (length xs)) (suc n) ≡ suc (min (length xs) n) = grind arith in
    rw less (ap (λ ys. x ∷ ys) (take_few xs n))
