-- The flight control's area after a frame in which it ran.
use Rattle.std.specs.Prelude.{ℕ, ℤ, pos, ◌-ℤ◌, ◌+ℤ◌, ◌*ℤ◌, ◌==◌, List, [], ◌∷◌, if◌then◌else◌}
use Rattle.std.specs.Ordering.{int_eq}
use Rattle.app_model.specs.declared.seen.Seen.{Seen}
use Rattle.kind_table.specs.declared.kinds.autopilot.TheConstants as autopilot
use Rattle.kind_table.specs.declared.kinds.every_kind.TheConstants.{STATUS}
use Rattle.kind_table.specs.declared.kinds.flight_control.TheConstants.{AILERON, AUGMENTED, ELEVATOR, KIND}
use Rattle.scram_types.specs.Ranges.{clamp_in, limit}
use Rattle.app_model.specs.Reads.{own_word, lead_word, ticks_after}

-- Word `i` of the area of the lowest-numbered autopilot, which is the pitch or the roll command. The value is 0 if
-- the status of this autopilot is not 1.
unfoldable pub command : Seen → ℕ → ℤ
command seen i = if int_eq (lead_word autopilot.KIND seen STATUS) (pos 1) then lead_word autopilot.KIND seen i else pos 0

-- The number `x`, moved toward `target` by at most `step`.
unfoldable pub closer : ℤ → ℤ → ℕ → ℤ
closer x target step = x +ℤ clamp_in (limit step step) (target -ℤ x)

-- The elevator, in tenths of a degree. In `augmented` it is moved toward the pitch command by at most 40 and clamped
-- to the range from -100 to 100. In every other mode it is twice the pitch command.
unfoldable pub elevator_after : Seen → ℤ
elevator_after seen =
    if seen.mode.0 == AUGMENTED then clamp_in (limit 100 100) (closer (own_word KIND seen ELEVATOR) (command seen autopilot.PITCH) 40)
    else pos 2 *ℤ command seen autopilot.PITCH

-- The aileron, in tenths of a degree. In `augmented` it is moved toward the roll command by at most 60 and clamped to
-- the range from -150 to 150. In every other mode it is twice the roll command.
unfoldable pub aileron_after : Seen → ℤ
aileron_after seen =
    if seen.mode.0 == AUGMENTED then clamp_in (limit 150 150) (closer (own_word KIND seen AILERON) (command seen autopilot.ROLL) 60)
    else pos 2 *ℤ command seen autopilot.ROLL

-- The flight control's area after a frame in which it ran.
unfoldable pub flight_control_ran : Seen → List ℤ
flight_control_ran seen = pos 1 ∷ elevator_after seen ∷ aileron_after seen ∷ command seen autopilot.PITCH ∷ command seen autopilot.ROLL ∷ pos 0
    ∷ ticks_after KIND seen ∷ pos 0 ∷ []
