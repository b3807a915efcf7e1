-- The number of frames that change the environment, counted frame by frame.
use Rattle.std.specs.Prelude.{◌≡◌, ℕ, ◌-◌}
use Rattle.scram_types.specs.Scripts.{ScriptParts}
use Rattle.scram_types.specs.Specification.{Parts}
use Rattle.fault_script.specs.Assumption.{changes_upto}
use Rattle.fault_family.specs.declared.within.Counts.{Counts}

-- `counts` contains the number of change frames up to and including frame `f`, and the number of change frames before
-- the window that ends with frame `f`.
pub record AreChangeFrameCounts (spec : Parts) (script : ScriptParts) (f : ℕ) (counts : Counts) : Type 0 where
  pub upto : counts.upto ≡ changes_upto spec script f
  pub past : counts.past ≡ changes_upto spec script (f - spec.window)
