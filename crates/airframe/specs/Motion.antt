-- One step of the aircraft. Each number that is read is clamped to its range. The new climb, bank and altitude are
-- clamped too.
use Rattle.std.specs.Prelude.{ℕ, ℤ, ◌+ℤ◌, ◌-ℤ◌, ◌≤ℤ◌, pos}
use Rattle.scram_types.specs.declared.rows.World.{World}
use Rattle.scram_types.specs.Numbers.{minus, part, modulo}
use Rattle.scram_types.specs.Ranges.{clamp_in, limit}
use Rattle.airframe.specs.declared.motion.Motion.{Motion}

-- The number `x`, moved toward `target` by one part in `n` of the difference. The part is rounded toward zero.
unfoldable pub toward : ℤ → ℤ → ℕ → ℤ
toward x target n = x +ℤ part (target -ℤ x) n

-- The number `x` plus a tenth of `y`. The tenth is rounded toward zero.
unfoldable pub plus_tenth : ℤ → ℤ → ℤ
plus_tenth x y = x +ℤ part y 10

-- The climb after the step, in tenths of a foot per frame: the old climb, moved a quarter of the way to the elevator.
unfoldable pub climb_after : Motion → ℤ
climb_after m = clamp_in (limit 300 300) (toward (clamp_in (limit 300 300) m.world.climb) (clamp_in (limit 300 300) m.elevator) 4)

-- The bank after the step, in tenths of a degree: the old bank, moved half of the way to the aileron.
unfoldable pub bank_after : Motion → ℤ
bank_after m = clamp_in (limit 300 300) (toward (clamp_in (limit 300 300) m.world.bank) (clamp_in (limit 300 300) m.aileron) 2)

-- The altitude after the step, in feet: the old altitude plus a tenth of the new climb.
unfoldable pub alt_after : Motion → ℤ
alt_after m = clamp_in (limit 0 40000) (plus_tenth (clamp_in (limit 0 40000) m.world.alt) (climb_after m))

-- The heading after the step, in tenths of a degree: the old heading plus a tenth of the new bank, around the circle.
unfoldable pub heading_after : Motion → ℤ
heading_after m = modulo (plus_tenth (clamp_in (limit 0 3599) m.world.heading) (bank_after m)) 3600

-- The world one frame later.
unfoldable pub world_after : Motion → World
world_after m = record { alt = alt_after m; climb = climb_after m; heading = heading_after m; bank = bank_after m }

-- The world one frame later, given the positions of the elevator and the aileron.
abbrev pub step_of : World → ℤ → ℤ → World
step_of world elevator aileron = world_after (record { world = world; elevator = elevator; aileron = aileron })

-- Every number of the world lies in its range.
pub record IsFlyable (world : World) : Type 0 where
  pub lowest : pos 0 ≤ℤ world.alt
  pub highest : world.alt ≤ℤ pos 40000
  pub steepest_down : minus 300 ≤ℤ world.climb
  pub steepest_up : world.climb ≤ℤ pos 300
  pub first : pos 0 ≤ℤ world.heading
  pub last : world.heading ≤ℤ pos 3599
  pub left : minus 300 ≤ℤ world.bank
  pub right : world.bank ≤ℤ pos 300
