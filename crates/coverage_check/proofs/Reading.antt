-- What a function computes from the item at an index of a list, or from the absence of such an item.
use Rattle.std.proofs.Common.{◌≡◌, ℕ, ◌≤◌, refl, sym, true, false, List, length}
use Rattle.std.specs.Prelude.{nat_lt, slice_get, slice_index_or}
use Rattle.std.specs.Option.{option_map_or}
use Rattle.std.proofs.lemmas.Option.{slice_get_past}
use Rattle.scram_types.proofs.Naturals.{not_below}
use Rattle.scram_types.proofs.Placed.{read_within}

-- The list `ys` that was read is `xs`, and the index `k` that was read is `i`.
module _ {A B : Type 0} (value : A → B) (none : B) (xs ys : List A) (i k : ℕ) (list : ys ≡ xs) (place : k ≡ i) where
  pub taken : (x : A) → true ≡ nat_lt k (length ys) → x ≡ slice_index_or ys k x → option_map_or value (slice_get xs i) none ≡ value x
  taken x low here = rw (← list, ← place, read_within ys k x low here) refl

  pub left_out : false ≡ nat_lt k (length ys) → option_map_or value (slice_get xs i) none ≡ none
  left_out high =
      let past : length ys ≤ k = not_below k (length ys) (sym high) in
      rw (← list, ← place, slice_get_past ys k past) refl
