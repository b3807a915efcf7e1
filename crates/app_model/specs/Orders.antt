-- The areas after all orders except `Run`. The rules are the same for all kinds.
use Rattle.std.specs.Prelude.{ℕ, ℤ, pos, ◌-ℤ◌, ◌==◌, ◌&&◌, Bool, List, [], ◌∷◌, if◌then◌else◌}
use Rattle.app_model.specs.declared.seen.Seen.{Seen}
use Rattle.kind_table.specs.declared.kinds.autopilot.TheConstants.{KIND, TARGET_ALT, TARGET_HEADING}
use Rattle.scram_types.specs.Numbers.{part}
use Rattle.scram_types.specs.Ranges.{clamp_in}
use Rattle.kind_table.specs.Ranges.{initialised_range, is_moving}
use Rattle.app_model.specs.Reads.{own_word, altitude, heading}

-- The area with status `status` and the other words of the application's own area, clamped to their ranges.
unfoldable pub kept_area : ℕ → ℤ → Seen → List ℤ
kept_area kind status seen = status ∷ own_word kind seen 1 ∷ own_word kind seen 2 ∷ own_word kind seen 3 ∷ own_word kind seen 4 ∷ own_word kind seen 5
    ∷ own_word kind seen 6 ∷ own_word kind seen 7 ∷ []

-- The value of a moving variable with value `x` after one frame of a halt phase, given the number `left` of frames
-- left, including this frame.
unfoldable pub faded : ℤ → ℕ → ℤ
faded x left = x -ℤ part x left

-- Word `i` after a frame of a halt phase, given the number `left` of frames left, including this frame. A moving
-- variable fades to 0, and any other word stays.
unfoldable pub halted_word : ℕ → ℕ → Seen → ℕ → ℤ
halted_word kind left seen i = if is_moving kind i then faded (own_word kind seen i) left else own_word kind seen i

-- The area after a frame of a halt phase, given the number `left` of frames left, including this frame.
unfoldable pub halted : ℕ → ℕ → Seen → List ℤ
halted kind left seen = pos 2 ∷ halted_word kind left seen 1 ∷ halted_word kind left seen 2 ∷ halted_word kind left seen 3 ∷ halted_word kind left seen 4
    ∷ halted_word kind left seen 5 ∷ halted_word kind left seen 6 ∷ halted_word kind left seen 7 ∷ []

-- Word `i` at the end of the init phase. The autopilot's targets become the aircraft's altitude and heading. Any
-- other word is the word of the application's own area, clamped to the range after an init phase.
unfoldable pub initialised_word : ℕ → Seen → ℕ → ℤ
initialised_word kind seen i =
    if kind == KIND && i == TARGET_ALT then altitude seen else
    (if kind == KIND && i == TARGET_HEADING then heading seen else clamp_in (initialised_range kind seen.mode.0 i) (own_word kind seen i))

-- The area at the end of the init phase.
unfoldable pub initialised : ℕ → Seen → List ℤ
initialised kind seen = pos 4 ∷ initialised_word kind seen 1 ∷ initialised_word kind seen 2 ∷ initialised_word kind seen 3 ∷ initialised_word kind seen 4
    ∷ initialised_word kind seen 5 ∷ initialised_word kind seen 6 ∷ initialised_word kind seen 7 ∷ []

-- The area after a frame of the init phase. `last` is `true` if the frame is the last one of the phase.
abbrev pub initialising : ℕ → Bool → Seen → List ℤ
initialising kind last seen = if last then initialised kind seen else kept_area kind (pos 4) seen
