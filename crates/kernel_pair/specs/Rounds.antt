-- The progress of a pair's flight.
use Rattle.std.specs.Prelude.{◌≡◌, ◌≤◌, ℕ}
use Rattle.kernel_pair.specs.Machines.{PairParts, pair_flight, pair_in}
use Rattle.kernel_pair.specs.Rooms.{pair_left}

-- The maximum number of events of a pair that remain.
abbrev pub left_in : PairParts → ℕ
left_in k = pair_left (pair_flight k) k.halt (pair_in k)

-- The flight of a pair has continued from `old` to `new`. Fewer events remain, or the pair is unchanged and `Stuck`
-- holds.
pub record IsFlownOn (old new : PairParts) (Stuck : Type 0) : Type 0 where
  pub spec : new.spec ≡ old.spec
  pub script : new.script ≡ old.script
  pub halt : new.halt ≡ old.halt
  pub fewer : left_in new ≤ left_in old
  pub stuck : left_in new ≡ left_in old → (new ≡ old) × Stuck
