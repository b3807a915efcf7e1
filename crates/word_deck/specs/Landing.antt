-- The landing of a processor that flies on a thread.
use Rattle.std.specs.Prelude.{◌≡◌, ℕ, true, false}
use Rattle.fail_stop.specs.Ends.{IsDone}
use Rattle.word_table.specs.declared.seats.Seat.{Seat}
use Rattle.word_table.specs.declared.tables.WordTable.{WordTable}
use Rattle.word_table.specs.Tables.{IsSeatOf, flight_in, seat_place, proc_of}
use Rattle.word_deck.specs.declared.landings.Landing.{Landing}

-- The seat belongs to processor `p`, which has flown all frames or has halted for good.
pub record IsLanded (words : WordTable) (p : ℕ) (seat : Seat) : Type 0 where
  pub seated : IsSeatOf words seat
  pub proc : proc_of seat ≡ p
  pub done : IsDone (flight_in words) p (seat_place seat)

-- The processor that had seat `was` has landed, or it has not flown and returns the same seat.
pub record Lands (words : WordTable) (was : Seat) (landing : Landing) : Type 0 where
  pub landed : landing.flown ≡ true → IsLanded words (proc_of was) landing.seat
  pub stayed : landing.flown ≡ false → landing.seat ≡ was
