-- Each word past the end of an area is 0.
use Rattle.std.proofs.Common.{◌≡◌, ℕ, zero, suc, ◌≤◌, refl, arith, List, [], ◌∷◌, length}
use Rattle.std.specs.Prelude.{ℤ, pos, slice_index_or}
use Rattle.scram_types.specs.Numbers.{word}

none_past : (words : List ℤ) (i : ℕ) → length words ≤ i → slice_index_or words i (pos 0) ≡ pos 0
none_past [] i past = refl
none_past (x ∷ words) zero past = absurd (omega arith)
none_past (x ∷ words) (suc i) past = none_past words i (omega arith)

pub word_past : (area : List ℤ) (i : ℕ) → length area ≤ i → word area i ≡ pos 0
unfolding word
word_past area i past = none_past area i past
