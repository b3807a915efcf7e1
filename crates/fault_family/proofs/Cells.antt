-- Lemmas on a list with one element for each pair of elements of two lists, row by row: its length, and the element
-- in a given row and column.
use Rattle.std.proofs.Common.{◌≡◌, ◌∙◌, ℕ, zero, suc, ◌+◌, ◌*◌, List, [], ◌∷◌, ◌++◌, length, map, length-append, arith, ap, refl}
use Rattle.std.specs.Prelude.{Some, flat_map, slice_get, option_map}
use Rattle.std.proofs.lemmas.Option.{same_Some, slice_get-map}
use Rattle.scram_types.proofs.Items.{first_part}

-- Element `k` of the second of two lists is element `length xs + k` of the joined list.
pub second_part : {A : Type 0} (xs ys : List A) (k : ℕ) → slice_get (xs ++ ys) (length xs + k) ≡ slice_get ys k
second_part [] ys k = let none : 0 + k ≡ k = omega arith in ap (slice_get ys) none
second_part (x ∷ xs) ys k = let next : suc (length xs) + k ≡ suc (length xs + k) = omega arith in rw next (second_part xs ys k)

pub length_mapped : {A B : Type 0} (f : A → B) (xs : List A) → length (map f xs) ≡ length xs
length_mapped f [] = refl
length_mapped f (x ∷ xs) = ap suc (length_mapped f xs)

module _ {A B C : Type 0} (made : A → B → C) (bs : List B) where
  -- The rows of the elements of a list, joined. The row of an element `x` contains the value of `made x` for each
  -- element of `bs`.
  pub rows : List A → List C
  rows [] = []
  rows (x ∷ xs) = map (made x) bs ++ rows xs

  pub are_rows : (xs : List A) → flat_map (λ (x : A). map (made x) bs) xs ≡ rows xs
  unfolding rows
  are_rows [] = refl
  are_rows (x ∷ xs) = ap (λ (rest : List C). map (made x) bs ++ rest) (are_rows xs)

  pub length_rows : (xs : List A) → length (rows xs) ≡ length xs * length bs
  unfolding rows
  length_rows [] = omega arith
  length_rows (x ∷ xs) =
      let rest = length_rows xs in
      let row = length_mapped (made x) bs in
      let both = length-append (map (made x) bs) (rows xs) in
      omega (arith, rest, row, both)

  -- The element at column `k` of row `i` is the value of `made` for element `i` of the first list and element `k` of
  -- the second list.
  pub cell : (xs : List A) (i k : ℕ) (x : A) (b : B) → slice_get xs i ≡ Some x → slice_get bs k ≡ Some b → slice_get (rows xs) (i * length bs + k) ≡ Some (made x b)
  unfolding rows
  cell [] i k x b there column = absurd cc
  cell (y ∷ ys) zero k x b there column =
      let same : y ≡ x = same_Some y x there in
      let here : zero * length bs + k ≡ k = omega arith in
      rw here (first_part (map (made y) bs) (rows ys) k (made x b) (slice_get-map (made y) bs k ∙ ap (option_map (made y)) column ∙ ap (λ (z : A). Some (made z b)) same))
  cell (y ∷ ys) (suc i) k x b there column =
      let row = length_mapped (made y) bs in
      let further : suc i * length bs + k ≡ length (map (made y) bs) + (i * length bs + k) = omega (arith, row) in
      rw further (second_part (map (made y) bs) (rows ys) (i * length bs + k) ∙ cell ys i k x b there column)
