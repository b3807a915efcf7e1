-- The covers of configurations, and their possible targets.
use Rattle.std.specs.Prelude.{◌≡◌, ℕ, ◌<◌, ◌^◌, true, List, length, slice_get, Some}
use Rattle.scram_types.specs.declared.ids.ConfId.{ConfId}
use Rattle.scram_types.specs.Bits.{has_bit}
use Rattle.scram_types.specs.Specification.{Parts}
use Rattle.scram_types.specs.Lookups.{conf_id}
use Rattle.choice_table.specs.Choices.{IsTarget}
use Rattle.cube_cover.specs.declared.answers.Cover.{Cover}
use Rattle.cube_cover.specs.Covers.{IsCover}

-- For each configuration `i`, entry `i` of the list is the cover of `i`.
abbrev pub HasCovers : Parts → List Cover → Type 0
HasCovers spec covers = (i : ℕ) (cover : Cover) → i < length spec.confs → slice_get covers i ≡ Some cover → IsCover spec (conf_id i) cover

-- `set` contains the possible targets of `i` as bits, and no other bits.
pub record AreTargets (spec : Parts) (i : ConfId) (set : ℕ) : Type 0 where
  pub only : (j : ConfId) → j.0 < length spec.confs → has_bit set j.0 ≡ true → IsTarget spec i j
  pub all : (j : ConfId) → IsTarget spec i j → has_bit set j.0 ≡ true
  pub few : set < 2 ^ length spec.confs
