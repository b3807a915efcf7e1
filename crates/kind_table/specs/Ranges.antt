-- The ranges of the variables, by kind, mode and word, taken from the table of kinds.
use Rattle.std.specs.Prelude.{ℕ, Bool}
use Rattle.scram_types.specs.declared.ranges.Range.{Range}
use Rattle.kind_table.specs.Kinds.{kind_or_last, kind_variable, range_in}

-- The range of word `i` while an application of kind `kind` is in mode `mode`.
unfoldable pub mode_range : ℕ → ℕ → ℕ → Range
mode_range kind mode i = range_in (kind_variable kind i).ranges mode

-- The range of word `i` after the last frame of an init phase, which may be narrower than the range in the mode.
unfoldable pub initialised_range : ℕ → ℕ → ℕ → Range
initialised_range kind mode i = range_in (kind_variable kind i).initialised mode

-- The mode of the kind that has the widest range of each variable.
unfoldable pub widest_mode : ℕ → ℕ
widest_mode kind = (kind_or_last kind).widest

-- The range of word `i` in the widest mode of the kind.
unfoldable pub sane_range : ℕ → ℕ → Range
sane_range kind i = mode_range kind (widest_mode kind) i

-- Whether a halt brings word `i` to 0.
unfoldable pub is_moving : ℕ → ℕ → Bool
is_moving kind i = (kind_variable kind i).moves
