-- Processors before, in and after a flight.
use Rattle.std.specs.Prelude.{◌≡◌, ℕ, List, [], ◌∷◌, ◌++◌, All, map, slice_get, Some}
use Rattle.fail_stop.specs.Events.{At}
use Rattle.word_table.specs.declared.seats.KSeat.{KSeat}
use Rattle.word_table.specs.declared.seats.Seat.{Seat}
use Rattle.word_table.specs.declared.tables.WordTable.{WordTable}
use Rattle.word_table.specs.Tables.{IsSeatOf, mission_in, seat_place, proc_of}
use Rattle.word_deck.specs.declared.crews.Crew.{Crew}
use Rattle.word_deck.specs.declared.scopes.Boarding.{Boarding}
use Rattle.word_deck.specs.declared.scopes.Boarding.TheVariants.{Threaded, Own, Landed}
use Rattle.word_deck.specs.Crews.{IsCrewOf}
use Rattle.word_deck.specs.Landing.{IsLanded}

-- Each seat of the list belongs to the table, belongs to the processor whose number is the seat's index, and is at
-- its opening place.
abbrev pub AreOpen : WordTable → List Seat → Type 0
AreOpen words seats = (p : ℕ) (seat : Seat) → slice_get seats p ≡ Some seat → IsSeatOf words seat × (proc_of seat ≡ p) × (seat_place seat ≡ At 0 0)

-- Each seat of the list has the id and the mission of the table, belongs to the processor whose number is the seat's
-- index, and is at its opening place.
abbrev pub AreAtTable : WordTable → List Seat → Type 0
AreAtTable words seats = (p : ℕ) (seat : Seat) → slice_get seats p ≡ Some seat
    → (seat.inner.table_id ≡ words.table.shared.table_id) × (seat.inner.me.0.mission ≡ Some (mission_in words))
    × (proc_of seat ≡ p) × (seat_place seat ≡ At 0 0)

-- Each crew belongs to the table and is between two turns.
abbrev pub AreCrewsOf : {X : Type 0} {Y : X → Type 0} → WordTable → List (Crew X Y) → Type 0
AreCrewsOf {X = X} {Y = Y} words crews = All (λ (crew : Crew X Y). IsCrewOf words crew) crews

-- The number of each crew's processor, in the order of the crews.
abbrev pub numbers_in : {X : Type 0} {Y : X → Type 0} → List (Crew X Y) → List ℕ
numbers_in {X = X} {Y = Y} crews = map (λ (crew : Crew X Y). proc_of crew.seat) crews

-- Each seat of the list belongs to the processor whose number is the seat's index, and that processor has landed.
abbrev pub AreLanded : WordTable → List Seat → Type 0
AreLanded words seats = (p : ℕ) (seat : Seat) → slice_get seats p ≡ Some seat → IsLanded words p seat

-- The numbers of the processors that fly in the caller's turns, after processor `p` has boarded in the given way.
-- `numbers` are the numbers before `p` has boarded.
abbrev pub numbers_boarded : Boarding → ℕ → List ℕ → List ℕ
numbers_boarded (Threaded flying) p numbers = numbers
numbers_boarded Own p numbers = numbers ++ p ∷ []
numbers_boarded (Landed seat) p numbers = numbers

-- `numbers` are the numbers of the processors that fly in the caller's turns after processor `p` has boarded in the
-- given way. If `p` flies in the caller's turns, then `p` is the last of the numbers.
pub record IsBoardedLast (boarding : Boarding) (p : ℕ) (numbers : List ℕ) : Type 0 where
  pub front : List ℕ
  pub same : numbers ≡ numbers_boarded boarding p front

-- If the processor that had seat `was` flies on a thread, the thread promises the landing of that processor. If the
-- processor has landed, the landed seat belongs to that processor. Nothing is required of a processor in the caller's
-- turns.
abbrev pub IsBoarded : WordTable → Seat → Boarding → Type 0
IsBoarded words was (Threaded flying) = (flying.handle.promise.0.value ≡ words) × (flying.handle.promise.1.value ≡ was)
IsBoarded words was Own = Unit {0}
IsBoarded words was (Landed seat) = IsLanded words (proc_of was) seat

-- The kernel's seat has the id and the mission of the table.
abbrev pub IsAtTable : WordTable → KSeat → Type 0
IsAtTable words kseat = (kseat.inner.table_id ≡ words.table.shared.table_id) × (kseat.inner.me.0.mission ≡ Some (mission_in words))
