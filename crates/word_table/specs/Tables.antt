-- Tables and their seats, and the images, drafts and marks of a table's mission.
use Rattle.std.specs.Prelude.{◌≡◌, ◌<◌, ℕ, ℤ, Bool, not, ◌&&◌, List, [], length, slice_get, slice_index, slice_index_or, Option, Some, is_none}
use Rattle.bank_words.specs.declared.events.Event.{Event}
use Rattle.bank_words.specs.declared.images.KernelImage.{KernelImage}
use Rattle.frame_model.specs.Flights.{image_after}
use Rattle.frame_model.specs.Storage.{kernel_image, mark_after}
use Rattle.coverage_check.specs.Missions.{MissionParts}
use Rattle.fail_stop.specs.Consistency.{marked}
use Rattle.fail_stop.specs.Events.{At, Place, after_frame, frame_of}
use Rattle.fail_stop.specs.Flights.{Flight}
use Rattle.fail_stop.specs.ScriptFlights.{draft_words, kernel_words}
use Rattle.word_table.specs.declared.actors.Actor.{Actor}
use Rattle.word_table.specs.declared.seats.KSeat.{KSeat}
use Rattle.word_table.specs.declared.seats.Seat.{Seat}
use Rattle.word_table.specs.declared.tables.WordTable.{WordTable}
use Rattle.word_table.specs.Keeping.{IsFlown}
use Rattle.word_table.specs.Actors.{IsInFlight, actor_at, frame_awaited, mission_flight, place_at, step_at}

-- The mission of a table.
abbrev pub mission_in : WordTable → MissionParts
mission_in words = words.table.shared.key

-- The flight of a table's mission.
abbrev pub flight_in : WordTable → Flight
flight_in words = mission_flight (mission_in words)

-- The number of a seat's processor.
abbrev pub proc_of : Seat → ℕ
proc_of seat = seat.proc.0

-- The place of a seat's processor.
abbrev pub seat_place : Seat → Place
seat_place seat = place_at seat.frame seat.step seat.halted

-- The number of loads by a seat that found nothing ready.
abbrev pub tries_of : Seat → ℕ
tries_of seat = seat.inner.me.0.tries

-- The kernel's current frame.
abbrev pub kernel_frame : KSeat → ℕ
kernel_frame kseat = kseat.frame

-- The number of steps that the kernel has made in its current frame.
abbrev pub kernel_steps : KSeat → ℕ
kernel_steps kseat = kseat.step

-- The number of loads by the kernel's seat that found nothing ready.
abbrev pub kernel_tries : KSeat → ℕ
kernel_tries kseat = kseat.inner.me.0.tries

-- A seat belongs to a table. Its processor is a processor of the mission, and its place is within the flight.
pub record IsSeatOf (words : WordTable) (seat : Seat) : Type 0 where
  pub holds : IsFlown (mission_in words)
  pub table : seat.inner.table_id ≡ words.table.shared.table_id
  pub mission : seat.inner.me.0.mission ≡ Some (mission_in words)
  pub proc : proc_of seat < length (mission_in words).spec.procs
  pub in_flight : IsInFlight (flight_in words) (seat_place seat)

-- The kernel's seat belongs to a table.
pub record IsKernelSeatOf (words : WordTable) (kseat : KSeat) : Type 0 where
  pub holds : IsFlown (mission_in words)
  pub table : kseat.inner.table_id ≡ words.table.shared.table_id
  pub mission : kseat.inner.me.0.mission ≡ Some (mission_in words)

-- The list holds the seats of all processors of a table, in the order of their numbers.
pub record AreSeatsOf (words : WordTable) (seats : List Seat) : Type 0 where
  pub count : length seats ≡ length (mission_in words).spec.procs
  pub each : (p : ℕ) (seat : Seat) → slice_get seats p ≡ Some seat → IsSeatOf words seat × (proc_of seat ≡ p)

-- Each seat is at the start of frame 0.
abbrev pub AreOpening : List Seat → Type 0
AreOpening seats = (p : ℕ) (seat : Seat) → slice_get seats p ≡ Some seat → seat_place seat ≡ At 0 0

-- Whether processor `p` is not up in frame `k`, or halts in frame `k`.
abbrev pub has_halted_by : Flight → ℕ → ℕ → Bool
has_halted_by m p k = not (m.up p k && is_none (m.halt p k))

-- The number `n` such that the mark of a processor at a place is the processor's mark after the first `n` frames.
abbrev pub frames_marked : MissionParts → Place → ℕ
frames_marked mission place = marked (mission_flight mission) place

-- The actor of a seat.
abbrev pub actor_of : Seat → Actor
actor_of seat = actor_at (proc_of seat) (seat_place seat)

-- The frame for whose release a seat's processor waits.
abbrev pub awaited_by : WordTable → Seat → ℕ
awaited_by words seat = frame_awaited (flight_in words) (proc_of seat) (seat_place seat)

-- The next step of a seat's processor in its frame, or `None` if it has not started the frame or has halted.
abbrev pub next_step : WordTable → Seat → Option Event
next_step words seat = step_at (flight_in words) (proc_of seat) (seat_place seat)

-- The place of a seat's processor after its frame. The processor is at the start of the next frame, or has halted.
abbrev pub frame_end : WordTable → Seat → Place
frame_end words seat = after_frame (frame_of (seat_place seat)) ((flight_in words).halt (proc_of seat) (frame_of (seat_place seat)))

-- The kernel image of frame `f` of a table's mission.
abbrev pub kernel_image_of : WordTable → ℕ → KernelImage
kernel_image_of words f = kernel_image (mission_in words).spec (mission_in words).script f

-- An image is the kernel image of the frame for whose release a seat's processor waits.
abbrev pub IsAwaitedImage : WordTable → Seat → KernelImage → Type 0
IsAwaitedImage words seat image = image ≡ kernel_image_of words (awaited_by words seat)

-- The place of a seat's processor after it has started the frame for which it waits.
abbrev pub started_place : WordTable → Seat → Place
started_place words seat = At (awaited_by words seat) 1

-- The words of the kernel image of frame `f` of a table's mission.
abbrev pub kernel_words_of : WordTable → ℕ → List ℕ
kernel_words_of words f = kernel_words (mission_in words).spec (mission_in words).script f

-- The words of the draft of processor `p` in frame `f`.
abbrev pub drafted_words : WordTable → ℕ → ℕ → List ℕ
drafted_words words p f = draft_words (mission_in words).spec (mission_in words).script p f

-- The mark of processor `p` after the first `n` frames.
abbrev pub committed_mark : WordTable → ℕ → ℕ → ℕ
committed_mark words p n = mark_after (mission_in words).spec (mission_in words).script p n

-- The image that processor `p` has committed after the first `n` frames.
abbrev pub committed_image : WordTable → ℕ → ℕ → List ℤ
committed_image words p n = image_after (mission_in words).spec (mission_in words).script p n

-- `marks` has, at the index of each seat, the mark that the seat's processor has committed up to the place of the
-- seat.
abbrev pub AreMarksOf : WordTable → List Seat → List ℕ → Type 0
AreMarksOf words seats marks = (p : ℕ) (seat : Seat) → slice_get seats p ≡ Some seat
    → slice_index marks p ≡ committed_mark words p (frames_marked (mission_in words) (seat_place seat))

-- `images` has, at the index of each seat, the image that the seat's processor has committed up to the place of the
-- seat.
abbrev pub AreImagesOf : WordTable → List Seat → List (List ℤ) → Type 0
AreImagesOf words seats images = (p : ℕ) (seat : Seat) → slice_get seats p ≡ Some seat
    → slice_index_or images p [] ≡ committed_image words p (frames_marked (mission_in words) (seat_place seat))
