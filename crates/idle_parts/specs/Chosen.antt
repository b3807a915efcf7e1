-- The possible choices from each configuration.
use Rattle.scram_types.specs.Specification.{Parts}
use Rattle.spec_forms.specs.choice_forms.Tables.{HasShares}
use Rattle.spec_forms.specs.Bounds.{AreAskedBounds}
use Rattle.idle_parts.specs.declared.choices.Chosen.{Chosen}

-- `chosen` holds the shares of each configuration, and for each configuration the set of the targets to which
-- acceptance requires a bound.
pub record AreChoicesOf (spec : Parts) (chosen : Chosen) : Type 0 where
  pub shares : HasShares spec chosen.shares.items
  pub sets : AreAskedBounds spec chosen.sets
