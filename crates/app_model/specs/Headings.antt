-- Headings, in tenths of a degree.
use Rattle.std.specs.Prelude.{ℤ, pos, ◌-ℤ◌, ◌+ℤ◌}
use Rattle.scram_types.specs.Numbers.{modulo}

-- The shorter turn from heading `from` to heading `target`, -1,800 to 1,799. A negative turn is to the left, and half
-- a turn is to the left too.
unfoldable pub short_turn : ℤ → ℤ → ℤ
short_turn target from = modulo ((target -ℤ from) +ℤ pos 5400) 3600 -ℤ pos 1800
