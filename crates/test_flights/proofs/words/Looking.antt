-- A processor that has not halted and has frames left waits for its next frame before it looks.
use Rattle.std.proofs.Common.{◌≡◌, ℕ, ◌<◌, false}
use Rattle.fail_stop.specs.Events.{At, Halted, Place, frame_of, is_halted}
use Rattle.fail_stop.specs.Flights.{Flight}
use Rattle.word_table.specs.Actors.{Waits, steps_of}

pub waits_at : (m : Flight) (p : ℕ) (place : Place) → is_halted place ≡ false → steps_of place ≡ 0 → frame_of place < m.frames → Waits m p place
waits_at m p (At f n) flies begin low = (begin, low)
waits_at m p (Halted h) flies begin low = cc
