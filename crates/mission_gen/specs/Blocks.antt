-- The random numbers of the generator. Each random number determines the events in a block of sixty frames.
use Rattle.std.specs.Prelude.{ℕ, zero, suc, ◌+◌, ◌*◌, ◌/◌, ◌%◌, ◌^◌, Bool, nat_le}

-- The random number that follows `x`.
abbrev pub next_random : ℕ → ℕ
next_random x = (1103515245 * x + 12345) % 2 ^ 31

-- The random number of block `k` of mission `n`. The random number of block 0 is `n`.
abbrev pub random : ℕ → ℕ → ℕ
random n zero = n
random n (suc k) = next_random (random n k)

-- The frame of the first event in block `k`, given the block's random number `x`.
abbrev pub first_frame : ℕ → ℕ → ℕ
first_frame k x = 60 * k + (x / 256) % 8

-- The number of frames, 1 to 8, from the change of the alternator that changes first to the change of the other
-- alternator, given the block's random number `x`.
abbrev pub delay : ℕ → ℕ
delay x = 1 + (x / 4096) % 8

-- One of four ways in which alternators change in a block, as a number from 0 to 3, given the block's random number
-- `x`.
abbrev pub choice : ℕ → ℕ
choice x = (x / 65536) % 4

-- The number of the alternator that changes first in a block, 0 or 1, given the block's random number `x`.
abbrev pub alternator : ℕ → ℕ
alternator x = choice x % 2

-- Whether the other alternator changes too in the block with random number `x`.
abbrev pub turns_both : ℕ → Bool
turns_both x = nat_le 2 (choice x)
