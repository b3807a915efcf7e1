-- Processors with the values that they need in a flight, and the effect of a turn on a processor's place.
use Rattle.std.specs.Prelude.{◌≡◌, ℕ, suc, Bool, false, not, Option, Some, None, if◌then◌else◌, nat_eq, nat_lt}
use Rattle.fail_stop.specs.Events.{At, Halted, Place, after_frame, frame_of}
use Rattle.fail_stop.specs.Flights.{Flight}
use Rattle.fail_stop.specs.Flyers.{HasSpare}
use Rattle.word_table.specs.declared.tables.WordTable.{WordTable}
use Rattle.word_table.specs.Actors.{frame_awaited, steps_of}
use Rattle.word_table.specs.Tables.{IsSeatOf, flight_in, seat_place, proc_of}
use Rattle.word_deck.specs.declared.crews.Crew.{Crew}
use Rattle.word_deck.specs.declared.turns.Turn.{Turn}
use Rattle.word_deck.specs.declared.turns.Turn.TheVariants.{Worked, NotYet, Finished}
use Rattle.word_deck.specs.Frames.{IsAfter}

-- Whether an optional restart is present and its frame comes after frame `h`.
abbrev pub comes_back : ℕ → Option ℕ → Bool
comes_back h None = false
comes_back h (Some r) = nat_lt h r

-- Whether processor `p` has flown all frames or has halted for good.
abbrev pub is_done : Flight → ℕ → Place → Bool
is_done m p (At f n) = nat_eq f m.frames
is_done m p (Halted h) = not (comes_back h (m.restart p))

-- The place of processor `p` after the frame for which it waits at a place.
abbrev pub place_flown : Flight → ℕ → Place → Place
place_flown m p place = after_frame (frame_awaited m p place) (m.halt p (frame_awaited m p place))

-- The place of processor `p` after a turn, given the result of the turn and the place before it.
abbrev pub place_after : Turn → Flight → ℕ → Place → Place
place_after NotYet m p place = place
place_after Worked m p place = place_flown m p place
place_after Finished m p place = if is_done m p place then place else place_flown m p place

-- The number of loads that found nothing ready after a turn with the given result, if there were `tries` such loads
-- before the turn.
abbrev pub tries_after : Turn → ℕ → ℕ
tries_after NotYet tries = suc tries
tries_after Worked tries = tries
tries_after Finished tries = tries

-- A crew belongs to the table and is between two turns. The crew has a spare rack if a restart of its processor is
-- still to come.
pub record IsCrewOf {X : Type 0} {Y : X → Type 0} (words : WordTable) (crew : Crew X Y) : Type 0 where
  pub seated : IsSeatOf words crew.seat
  pub begin : steps_of (seat_place crew.seat) ≡ 0
  pub spare_left : HasSpare (flight_in words) (proc_of crew.seat) (frame_of (seat_place crew.seat)) crew.flyer.spare

-- A crew belongs to the table and has made `n` steps of a frame. The crew has a spare rack if a restart of its
-- processor is still to come.
pub record CrewFlies {X : Type 0} {Y : X → Type 0} (words : WordTable) (n : ℕ) (crew : Crew X Y) : Type 0 where
  pub seated : IsSeatOf words crew.seat
  pub after : IsAfter n (seat_place crew.seat)
  pub spare_left : HasSpare (flight_in words) (proc_of crew.seat) (frame_of (seat_place crew.seat)) crew.flyer.spare
