-- The effect of turns and blocks on the generator's state.
use Rattle.std.specs.Prelude.{◌≡◌, ℕ, List, ◌++◌}
use Rattle.mission_gen.specs.declared.walks.Walk.{Walk}
use Rattle.mission_gen.specs.Blocks.{next_random}
use Rattle.mission_gen.specs.Changes.{changes_by, values_after}
use Rattle.mission_gen.specs.Turns.{Turn, turns_in}

-- The turns of a list were made, and their changes were added to the walk.
pub record Turned (before after : Walk) (turns : List Turn) : Type 0 where
  pub random : after.random ≡ before.random
  pub values : after.values ≡ values_after before.values turns
  pub changes : after.changes.items ≡ before.changes.items ++ changes_by before.values turns

-- The next random number was drawn, the turns that it determines in block `k` were made, and their changes were added
-- to the walk.
pub record WalkedBlock (k : ℕ) (before after : Walk) : Type 0 where
  pub random : after.random ≡ next_random before.random
  pub values : after.values ≡ values_after before.values (turns_in k (next_random before.random))
  pub changes : after.changes.items ≡ before.changes.items ++ changes_by before.values (turns_in k (next_random before.random))
