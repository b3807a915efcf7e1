-- The tables of ranges, given as minima and maxima. The tables include the status, which is word 0.
use Rattle.std.specs.Prelude.{ℕ, ℤ, pos, ◌==◌, if◌then◌else◌}
use Rattle.scram_types.specs.declared.ranges.Range.{Range}
use Rattle.scram_types.specs.Numbers.{minus}
use Rattle.kind_table.specs.Ranges.{initialised_range, sane_range, mode_range, is_moving}

-- The minimum and the maximum of a range.
abbrev pub ends : Range → ℤ × ℤ
ends r = (minus r.below, pos r.above)

-- The range of word `i` while an application of kind `kind` has status `status` in mode `mode`. The status is 1 for
-- run, 2 for halt, 3 for prepare and 4 for init.
unfoldable pub during : ℕ → ℕ → ℕ → ℕ → ℤ × ℤ
during kind status mode i = if i == 0 then (pos status, pos status) else ends (mode_range kind mode i)

-- The range of word `i` after the last frame of a halt phase.
unfoldable pub after_halt : ℕ → ℕ → ℕ → ℤ × ℤ
after_halt kind mode i = if is_moving kind i then (pos 0, pos 0) else during kind 2 mode i

-- The range of word `i` after the last frame of an init phase.
unfoldable pub after_init : ℕ → ℕ → ℕ → ℤ × ℤ
after_init kind mode i = if i == 0 then (pos 4, pos 4) else ends (initialised_range kind mode i)

-- The widest of the ranges that word `i` has in the modes of the kind.
unfoldable pub sane : ℕ → ℕ → ℤ × ℤ
sane kind i = ends (sane_range kind i)
