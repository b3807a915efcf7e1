-- Ranges from `-below` to `above`, each of which contains 0.
use Rattle.std.specs.Prelude.{ℕ, ℤ, pos}
use Rattle.scram_types.specs.declared.ranges.Range.{Range}
use Rattle.scram_types.specs.Numbers.{clamp, minus}

-- The range from `-a` to `b`, inclusive.
abbrev pub limit : ℕ → ℕ → Range
limit a b = record { below = a; above = b }

-- The number `x`, restricted to the range `r`.
unfoldable pub clamp_in : Range → ℤ → ℤ
clamp_in r x = clamp x (minus r.below) (pos r.above)
