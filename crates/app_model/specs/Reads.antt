-- The numbers that laws read, clamped to their ranges.
use Rattle.std.specs.Prelude.{ℕ, ℤ, pos, ◌+ℤ◌, [], slice_index_or}
use Rattle.std.specs.Int.{int_min}
use Rattle.app_model.specs.declared.seen.Seen.{Seen}
use Rattle.kind_table.specs.declared.kinds.every_kind.TheConstants.{TICKS}
use Rattle.scram_types.specs.Numbers.{word}
use Rattle.scram_types.specs.Ranges.{clamp_in, limit}
use Rattle.kind_table.specs.Ranges.{sane_range, mode_range}

-- Word `i` of the application's own area, clamped to the range of the mode that the application is to be in.
unfoldable pub own_word : ℕ → Seen → ℕ → ℤ
own_word kind seen i = clamp_in (mode_range kind seen.mode.0 i) (word seen.own i)

-- Word `i` of the area of the lowest-numbered application of kind `kind`, clamped to the widest range of the word.
unfoldable pub lead_word : ℕ → Seen → ℕ → ℤ
lead_word kind seen i = clamp_in (sane_range kind i) (word (slice_index_or seen.lead kind []) i)

-- The aircraft's altitude, in feet, clamped to the range from 0 to 40,000.
unfoldable pub altitude : Seen → ℤ
altitude seen = clamp_in (limit 0 40000) seen.world.alt

-- The aircraft's heading, in tenths of a degree, clamped to the range from 0 to 3,599.
unfoldable pub heading : Seen → ℤ
heading seen = clamp_in (limit 0 3599) seen.world.heading

-- The goal's altitude, in feet, clamped to the range from 0 to 40,000.
unfoldable pub goal_altitude : Seen → ℤ
goal_altitude seen = clamp_in (limit 0 40000) seen.goal.altitude

-- The goal's heading, in tenths of a degree, clamped to the range from 0 to 3,599.
unfoldable pub goal_heading : Seen → ℤ
goal_heading seen = clamp_in (limit 0 3599) seen.goal.heading

-- The number of frames in which the application ran, including this frame, at most 1,000,000.
unfoldable pub ticks_after : ℕ → Seen → ℤ
ticks_after kind seen = int_min (own_word kind seen TICKS +ℤ pos 1) (pos 1000000)
