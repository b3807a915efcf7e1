-- The autopilot's area after a frame in which it ran.
use Rattle.std.specs.Prelude.{ℤ, pos, ◌-ℤ◌, ◌+ℤ◌, ◌==◌, List, [], ◌∷◌, if◌then◌else◌}
use Rattle.app_model.specs.declared.seen.Seen.{Seen}
use Rattle.kind_table.specs.declared.kinds.autopilot.TheConstants.{INTEGRAL, KIND, NAVIGATE, PITCH, TARGET_ALT, TARGET_HEADING}
use Rattle.scram_types.specs.Numbers.{part}
use Rattle.scram_types.specs.Ranges.{clamp_in, limit}
use Rattle.kind_table.specs.Ranges.{mode_range}
use Rattle.app_model.specs.Reads.{own_word, altitude, heading, goal_altitude, goal_heading, ticks_after}
use Rattle.app_model.specs.Headings.{short_turn}

-- The target altitude, in feet: the goal's altitude in `navigate`, and the target of the previous frame in `hold`.
unfoldable pub target_alt : Seen → ℤ
target_alt seen = if seen.mode.0 == NAVIGATE then goal_altitude seen else own_word KIND seen TARGET_ALT

-- The target heading, in tenths of a degree: the goal's heading in `navigate`, and the target of the previous frame
-- in `hold`.
unfoldable pub target_heading : Seen → ℤ
target_heading seen = if seen.mode.0 == NAVIGATE then goal_heading seen else own_word KIND seen TARGET_HEADING

-- The target altitude minus the aircraft's altitude, in feet, clamped to the range from -500 to 500.
unfoldable pub altitude_error : Seen → ℤ
altitude_error seen = clamp_in (limit 500 500) (target_alt seen -ℤ altitude seen)

-- The sum of the altitude errors after this frame, in feet, clamped to the range from -4,000 to 4,000.
unfoldable pub integral_after : Seen → ℤ
integral_after seen = clamp_in (limit 4000 4000) (own_word KIND seen INTEGRAL +ℤ altitude_error seen)

-- The pitch command, in tenths of a degree: a tenth of the altitude error plus a hundredth of the sum of errors,
-- clamped to the mode's range.
unfoldable pub pitch_after : Seen → ℤ
pitch_after seen = clamp_in (mode_range KIND seen.mode.0 PITCH) (part (altitude_error seen) 10 +ℤ part (integral_after seen) 100)

-- The roll command, in tenths of a degree: a quarter of the remaining turn in `navigate`, clamped to the range from
-- -150 to 150, and 0 in every other mode.
unfoldable pub roll_after : Seen → ℤ
roll_after seen = if seen.mode.0 == NAVIGATE then clamp_in (limit 150 150) (part (short_turn (target_heading seen) (heading seen)) 4) else pos 0

-- The autopilot's area after a frame in which it ran.
unfoldable pub autopilot_ran : Seen → List ℤ
autopilot_ran seen = pos 1 ∷ pitch_after seen ∷ roll_after seen ∷ target_alt seen ∷ target_heading seen ∷ integral_after seen ∷ ticks_after KIND seen
    ∷ pos 0 ∷ []
