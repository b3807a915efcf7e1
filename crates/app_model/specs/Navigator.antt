-- The navigator's area after a frame in which it ran.
use Rattle.std.specs.Prelude.{ℕ, ℤ, pos, ◌-ℤ◌, ◌==◌, ◌&&◌, Bool, int_le, List, [], ◌∷◌, if◌then◌else◌}
use Rattle.app_model.specs.declared.seen.Seen.{Seen}
use Rattle.kind_table.specs.declared.kinds.navigator.TheConstants.{KIND, ROUTE}
use Rattle.scram_types.specs.Numbers.{minus}
use Rattle.scram_types.specs.Ranges.{clamp_in, limit}
use Rattle.app_model.specs.Reads.{altitude, heading, goal_altitude, goal_heading, ticks_after}
use Rattle.app_model.specs.Headings.{short_turn}

-- The remaining turn to the goal's heading, in tenths of a degree.
unfoldable pub bearing_error_after : Seen → ℤ
bearing_error_after seen = short_turn (goal_heading seen) (heading seen)

-- The remaining climb to the goal's altitude, in feet, clamped to the range from -5,000 to 5,000 in `route`, and 0 in
-- every other mode.
unfoldable pub climb_left_after : Seen → ℤ
climb_left_after seen = if seen.mode.0 == ROUTE then clamp_in (limit 5000 5000) (goal_altitude seen -ℤ altitude seen) else pos 0

-- Whether the number `x` lies between `-most` and `most`, inclusive.
unfoldable pub near : ℤ → ℕ → Bool
near x most = int_le (minus most) x && int_le x (pos most)

-- The number 1 if the remaining turn is at most 5 degrees and the remaining climb at most 100 feet, in either
-- direction, and 0 otherwise.
unfoldable pub on_course : Seen → ℤ
on_course seen = if near (bearing_error_after seen) 50 && near (climb_left_after seen) 100 then pos 1 else pos 0

-- The navigator's area after a frame in which it ran.
unfoldable pub navigator_ran : Seen → List ℤ
navigator_ran seen = pos 1 ∷ bearing_error_after seen ∷ climb_left_after seen ∷ on_course seen ∷ pos 0 ∷ pos 0 ∷ ticks_after KIND seen ∷ pos 0 ∷ []
