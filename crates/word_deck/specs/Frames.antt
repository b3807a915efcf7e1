-- The place of a processor within a frame, and the stores before its halt.
use Rattle.std.specs.Prelude.{◌≡◌, ℕ, ◌≤◌, List, Some, ℤ}
use Rattle.coverage_check.specs.Missions.{MissionParts}
use Rattle.frame_model.specs.Flights.{draft}
use Rattle.fail_stop.specs.Events.{At, Place, frame_of}
use Rattle.fail_stop.specs.Flights.{Flight}
use Rattle.word_table.specs.declared.seats.Seat.{Seat}
use Rattle.word_table.specs.Tables.{proc_of, seat_place}

-- A processor at `place` has not halted and has made `n` steps of its frame.
abbrev pub IsAfter : ℕ → Place → Type 0
IsAfter n place = place ≡ At (frame_of place) n

-- If processor `p` halts in frame `f`, the halt comes after at least `n` stores.
abbrev pub HaltsLate : Flight → ℕ → ℕ → ℕ → Type 0
HaltsLate m p f n = (s : ℕ) → m.halt p f ≡ Some s → n ≤ s

-- The image is the draft of a seat's processor in the frame of the seat.
abbrev pub IsSeatDraft : MissionParts → Seat → List ℤ → Type 0
IsSeatDraft mission seat image = image ≡ draft mission.spec mission.script (proc_of seat) (frame_of (seat_place seat))
