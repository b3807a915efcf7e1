-- The turns of a mission's blocks. A turn is the change of a factor to its next value in a frame.
use Rattle.std.specs.Prelude.{ℕ, zero, suc, ◌+◌, ◌-◌, ◌/◌, ◌%◌, ◌==◌, List, [], ◌∷◌, ◌++◌, if◌then◌else◌}
use Rattle.mission_gen.specs.Blocks.{alternator, delay, first_frame, random, turns_both}

-- The turn of a factor in a frame.
pub record Turn : Type 0 where
  pub frame : ℕ
  pub factor : ℕ

-- The turn of a factor in a frame.
abbrev pub turn : ℕ → ℕ → Turn
turn frame factor = record { frame = frame; factor = factor }

-- The turn of one of the four further factors in a frame, if `k`, the number of the block, is a multiple of three.
-- Otherwise, the list is empty.
abbrev pub aux_turns : ℕ → ℕ → List Turn
aux_turns k frame = if k % 3 == 0 then turn frame (2 + (k / 3) % 4) ∷ [] else []

-- The turn of the other alternator, `delay x` frames after `frame`, if the block with random number `x` turns both
-- alternators. Otherwise, the list is empty.
abbrev pub other_turns : ℕ → ℕ → List Turn
other_turns frame x = if turns_both x then turn (frame + delay x) (1 - alternator x) ∷ [] else []

-- The turns of block `k`, whose random number is `x`. In block 5 a processor halts and no factor turns.
abbrev pub turns_in : ℕ → ℕ → List Turn
turns_in k x =
    if k == 5 then []
    else (turn (first_frame k x) (alternator x) ∷ aux_turns k (first_frame k x) ++ other_turns (first_frame k x) x)

-- The turns of the blocks 1 to `k` of mission `n`.
abbrev pub turns_to : ℕ → ℕ → List Turn
turns_to n zero = []
turns_to n (suc k) = turns_to n k ++ turns_in (suc k) (random n (suc k))
