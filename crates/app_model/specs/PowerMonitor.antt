-- The power monitor's area after a frame in which it ran.
use Rattle.std.specs.Prelude.{ℕ, ℤ, pos, ◌-ℤ◌, ◌+ℤ◌, ◌==◌, int_lt, List, [], ◌∷◌, slice_index, if◌then◌else◌}
use Rattle.app_model.specs.declared.seen.Seen.{Seen}
use Rattle.kind_table.specs.declared.kinds.power_monitor.TheConstants.{CHARGE, KIND, NORMAL, SAVER}
use Rattle.scram_types.specs.Ranges.{clamp_in, limit}
use Rattle.app_model.specs.Reads.{own_word, ticks_after}

-- The charge units that an alternator supplies in a frame, given the value of its factor. They are 60 if the value is
-- 0, at which the alternator works, and 0 otherwise.
unfoldable pub alternator_gives : ℕ → ℤ
alternator_gives value = if value == 0 then pos 60 else pos 0

-- The charge units that both alternators supply in a frame.
unfoldable pub supply_after : Seen → ℤ
supply_after seen = alternator_gives (slice_index seen.factors 0) +ℤ alternator_gives (slice_index seen.factors 1)

-- The charge units that the loads take in a frame in this mode.
unfoldable pub demand_after : Seen → ℤ
demand_after seen = if seen.mode.0 == NORMAL then pos 100 else (if seen.mode.0 == SAVER then pos 60 else pos 20)

-- The battery's charge after this frame, clamped to the range from 0 to 10,000 charge units.
unfoldable pub charge_after : Seen → ℤ
charge_after seen = clamp_in (limit 0 10000) ((own_word KIND seen CHARGE +ℤ supply_after seen) -ℤ demand_after seen)

-- The number 1 if the charge is below 2,000 units, so that loads are to be shed, and 0 otherwise.
unfoldable pub shed_after : Seen → ℤ
shed_after seen = if int_lt (charge_after seen) (pos 2000) then pos 1 else pos 0

-- The power monitor's area after a frame in which it ran.
unfoldable pub power_monitor_ran : Seen → List ℤ
power_monitor_ran seen = pos 1 ∷ charge_after seen ∷ supply_after seen ∷ demand_after seen ∷ shed_after seen ∷ pos 0 ∷ ticks_after KIND seen ∷ pos 0 ∷ []
