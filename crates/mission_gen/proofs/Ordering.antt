-- Lemmas that the turns of a mission are sorted and that each is in the frames of its block.
use Rattle.std.proofs.Common.{◌≡◌, refl, ℕ, zero, suc, ◌+◌, ◌-◌, ◌*◌, ◌/◌, ◌%◌, ◌<◌, ◌≤◌, arith, List, [], ◌∷◌, ◌++◌, length, inl, inr}
use Rattle.std.specs.Prelude.{Bool, true, false, if◌then◌else◌, ◌==◌}
use Rattle.fault_script.specs.Fits.{Before}
use Rattle.mission_gen.specs.Blocks.{alternator, delay, first_frame, random, turns_both}
use Rattle.mission_gen.specs.Turns.{Turn, turn, turns_in, turns_to}

-- The factor of a turn exists, and the turn is in a frame from `low` on and below `high`.
pub record IsTurn (low high : ℕ) (t : Turn) : Type 0 where
  pub from : low ≤ t.frame
  pub below : t.frame < high
  pub factor : t.factor < 6

abbrev pub AreTurns : ℕ → ℕ → List Turn → Type 0
AreTurns low high [] = Unit {0}
AreTurns low high (t ∷ ts) = IsTurn low high t × AreTurns low high ts

-- The first turn of a list comes after turn `t`, or the list is empty.
abbrev pub Precedes : Turn → List Turn → Type 0
Precedes t [] = Unit {0}
Precedes t (u ∷ us) = Before t.frame t.factor u.frame u.factor

abbrev pub Sorted : List Turn → Type 0
Sorted [] = Unit {0}
Sorted (t ∷ ts) = Precedes t ts × Sorted ts

-- A list of at most `most` turns is sorted, and its turns are in frames from `low` on and below `high`.
pub record Kept (low high most : ℕ) (ts : List Turn) : Type 0 where
  pub turns : AreTurns low high ts
  pub sorted : Sorted ts
  pub few : length ts ≤ most

widened : (low high lower higher : ℕ) (ts : List Turn) → lower ≤ low → high ≤ higher → AreTurns low high ts → AreTurns lower higher ts
widened low high lower higher [] l h turns = tt
widened low high lower higher (t ∷ ts) l h turns = (
  record { from = omega (arith, l, turns.0.from); below = omega (arith, h, turns.0.below); factor = turns.0.factor },
  widened low high lower higher ts l h turns.1,
)

both : (low high : ℕ) (xs ys : List Turn) → AreTurns low high xs → AreTurns low high ys → AreTurns low high (xs ++ ys)
both low high [] ys first second = second
both low high (x ∷ xs) ys first second = (first.0, both low high xs ys first.1 second)

precedes_later : (middle low high : ℕ) (t : Turn) (ys : List Turn) → t.frame < middle → middle ≤ low → AreTurns low high ys → Precedes t ys
precedes_later middle low high t [] below m later = tt
precedes_later middle low high t (y ∷ ys) below m later = inl (omega (arith, below, m, later.0.from))

sorted_more : (low middle next high : ℕ) (xs ys : List Turn) → middle ≤ next → AreTurns low middle xs → AreTurns next high ys → Sorted xs → Sorted ys → Sorted (xs ++ ys)
sorted_more low middle next high [] ys m first second xs_sorted ys_sorted = ys_sorted
sorted_more low middle next high (x ∷ []) ys m first second xs_sorted ys_sorted = (precedes_later middle next high x ys first.0.below m second, ys_sorted)
sorted_more low middle next high (x ∷ y ∷ xs) ys m first second xs_sorted ys_sorted =
    (xs_sorted.0, sorted_more low middle next high (y ∷ xs) ys m first.1 second xs_sorted.1 ys_sorted)

length_more : (xs ys : List Turn) → length (xs ++ ys) ≡ length xs + length ys
length_more [] ys = omega arith
length_more (x ∷ xs) ys = let known = length_more xs ys in omega (arith, known)

-- The turns of a block, given the results of its three tests, are sorted, and there are at most three.
block_kept : (k x : ℕ) (fifth third other : Bool) →
    Kept (60 * k) (60 * k + 16) 3
    (if fifth then []
    else (turn (first_frame k x) (alternator x)
    ∷ (if third then turn (first_frame k x) (2 + (k / 3) % 4) ∷ [] else [])
    ++ (if other then turn (first_frame k x + delay x) (1 - alternator x) ∷ [] else [])))
block_kept k x true third other = record { turns = tt; sorted = tt; few = omega arith }
block_kept k x false true true = record {
  turns = (
    record { from = omega arith; below = omega arith; factor = omega arith },
    (
      record { from = omega arith; below = omega arith; factor = omega arith },
      (
        record { from = omega arith; below = omega arith; factor = omega arith },
        tt,
      ),
    ),
  );
  sorted = (inr (refl, omega arith), (inl (omega arith), (tt, tt)));
  few = omega arith;
}
block_kept k x false true false = record {
  turns = (
    record { from = omega arith; below = omega arith; factor = omega arith },
    (
      record { from = omega arith; below = omega arith; factor = omega arith },
      tt,
    ),
  );
  sorted = (inr (refl, omega arith), (tt, tt));
  few = omega arith;
}
block_kept k x false false true = record {
  turns = (
    record { from = omega arith; below = omega arith; factor = omega arith },
    (
      record { from = omega arith; below = omega arith; factor = omega arith },
      tt,
    ),
  );
  sorted = (inl (omega arith), (tt, tt));
  few = omega arith;
}
block_kept k x false false false = record {
  turns = (
    record { from = omega arith; below = omega arith; factor = omega arith },
    tt,
  );
  sorted = (tt, tt);
  few = omega arith;
}

pub turns_kept : (n k : ℕ) → Kept 60 (60 * k + 16) (3 * k) (turns_to n k)
turns_kept n zero = record { turns = tt; sorted = tt; few = omega arith }
turns_kept n (suc k) =
    let before = turns_kept n k in
    let x = random n (suc k) in
    let block = block_kept (suc k) x (suc k == 5) (suc k % 3 == 0) (turns_both x) in
    record {
      turns =
          both 60 (60 * suc k + 16) (turns_to n k) (turns_in (suc k) x)
          (widened 60 (60 * k + 16) 60 (60 * suc k + 16) (turns_to n k) (omega arith) (omega arith) before.turns)
          (widened (60 * suc k) (60 * suc k + 16) 60 (60 * suc k + 16) (turns_in (suc k) x) (omega arith) (omega arith) block.turns);
      sorted = sorted_more 60 (60 * k + 16) (60 * suc k) (60 * suc k + 16) (turns_to n k) (turns_in (suc k) x) (omega arith) before.turns block.turns before.sorted block.sorted;
      few = let all = length_more (turns_to n k) (turns_in (suc k) x) in omega (arith, all, before.few, block.few);
    }
