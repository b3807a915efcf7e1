-- Integers: clamping, division that rounds toward zero, a remainder that is not negative, the words of an area, and
-- the range in which sums fit 64 bits.
use Rattle.std.specs.Prelude.{ℕ, ℤ, pos, neg_ℤ, ◌≤ℤ◌, int_div, int_lt, List, slice_index_or, if◌then◌else◌}
use Rattle.std.specs.Int.{int_rem_euclid}

-- The integer `-n`.
abbrev pub minus : ℕ → ℤ
minus n = neg_ℤ (pos n)

-- The number `x`, restricted to the range from `low` to `high`, inclusive.
unfoldable pub clamp : ℤ → ℤ → ℤ → ℤ
clamp x low high = if int_lt x low then low else (if int_lt high x then high else x)

-- The quotient of `x` and `n`, rounded toward zero.
unfoldable pub part : ℤ → ℕ → ℤ
part x n = int_div x (pos n)

-- The remainder of `x` divided by `n`, from 0 to `n - 1` even for a negative `x`.
unfoldable pub modulo : ℤ → ℕ → ℤ
modulo x n = int_rem_euclid x (pos n)

-- Word `i` of an area, or 0 if there is no such word.
unfoldable pub word : List ℤ → ℕ → ℤ
word area i = slice_index_or area i (pos 0)

-- The number is within 2^32 of 0, so that a sum of a few such numbers fits 64 bits.
pub record FitsSums (z : ℤ) : Type 0 where
  pub low : minus 4294967296 ≤ℤ z
  pub high : z ≤ℤ pos 4294967296
