-- Sets of numbers, kept as bits. The set of the numbers below a limit that pass a test, and the count of these
-- numbers.
use Rattle.std.specs.Prelude.{ℕ, zero, suc, ◌+◌, ◌^◌, Bool, ◌==◌, if◌then◌else◌}
use Rattle.std.specs.Int.{bit_at}

-- The number `p` is in the set `set`: bit `p` of `set` is 1.
abbrev pub has_bit : ℕ → ℕ → Bool
has_bit set p = bit_at set p == 1

-- The set of the numbers below `n` that pass a test, as bits: the sum of `2 ^ p` over each such number `p`.
abbrev pub bits_below : (ℕ → Bool) → ℕ → ℕ
bits_below test zero = 0
bits_below test (suc n) = bits_below test n + (if test n then 2 ^ n else 0)

-- The count of the numbers below `n` that pass a test.
abbrev pub count_below : (ℕ → Bool) → ℕ → ℕ
count_below test zero = 0
count_below test (suc n) = count_below test n + (if test n then 1 else 0)
