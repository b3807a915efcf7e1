-- The results of flying a list of events as a schedule.
use Rattle.std.specs.Prelude.{◌≡◌, ◌≢◌, ℕ, zero, suc, List, length, take, slice_get, Option, Some, None, Result, Ok, Err, ⊤}
use Rattle.bank_words.specs.declared.events.Event.{Event}
use Rattle.event_core.specs.Replays.{IsReplay}
use Rattle.fail_stop.specs.Ends.{IsOver}
use Rattle.fail_stop.specs.Events.{Places, Word, next_kernel, next_of, next_of_actor}
use Rattle.fail_stop.specs.Flights.{Flight}
use Rattle.fail_stop.specs.ScriptFlights.{flight_of}
use Rattle.frame_model.specs.Flights.{reports_of, rows_of}
use Rattle.scram_types.specs.Scripts.{ScriptParts}
use Rattle.scram_types.specs.Specification.{Parts}
use Rattle.scram_types.specs.declared.rows.Flown.{Flown}
use Rattle.schedule_replay.specs.declared.replays.ReplayError.{ReplayError}
use Rattle.schedule_replay.specs.declared.replays.ReplayError.TheVariants as error

-- The first of two optional events if it is present, or else the second.
abbrev pub first_of_two : Option Event → Option Event → Option Event
first_of_two (Some event) other = Some event
first_of_two None other = other

-- The next event of the first processor below `n` that has one, or `None` if none of them has one.
abbrev pub next_below : Flight → Places → (Word → ℕ) → ℕ → Option Event
next_below m at words zero = None
next_below m at words (suc n) = first_of_two (next_below m at words n) (next_of m at words n)

-- The next event of the first processor that has one, or the next event of the kernel if no processor has one.
abbrev pub first_next : Flight → Places → (Word → ℕ) → Option Event
first_next m at words = first_of_two (next_below m at words m.procs) (next_kernel m at words)

-- The events are a schedule at whose end the flight is over.
pub record IsWholeSchedule (m : Flight) (list : List Event) : Type 0 where
  pub at : Places
  pub words : Word → ℕ
  pub replay : IsReplay m list at words
  pub over : IsOver m at

-- The events before index `index` are a schedule, and the event at that index is `given`. After the schedule, the
-- next event of the actor of `given` is `next`, or `None` if the actor has none. `next` is not `given`.
pub record IsIllegal (m : Flight) (list : List Event) (index : ℕ) (given : Event) (next : Option Event) : Type 0 where
  pub at : Places
  pub words : Word → ℕ
  pub before : IsReplay m (take index list) at words
  pub there : slice_get list index ≡ Some given
  pub next_is : next ≡ next_of_actor m at words given
  pub not_next : next ≢ Some given

-- The list is a schedule of `events` events at whose end the flight is not over, and `next` is the event that would
-- come next.
pub record IsShort (m : Flight) (list : List Event) (events : ℕ) (next : Event) : Type 0 where
  pub at : Places
  pub words : Word → ℕ
  pub replay : IsReplay m list at words
  pub going : IsOver m at → ⊥
  pub count : events ≡ length list
  pub next_is : first_next m at words ≡ Some next

-- The result is an answer to a list of events. If the list is a whole schedule, the answer is the one-thread trace.
-- Otherwise, it is the first event that is not the next of its actor, or the event that would come next if the list
-- ends too early. Out of memory is always an answer.
abbrev pub AnswersReplay : Parts → ScriptParts → List Event → Result Flown ReplayError → Type 0
AnswersReplay spec script list (Ok flown) = IsWholeSchedule (flight_of spec script) list × (flown.rows ≡ rows_of spec script)
    × (flown.reports ≡ reports_of spec script)
AnswersReplay spec script list (Err (error.Illegal index given next)) = IsIllegal (flight_of spec script) list index given next
AnswersReplay spec script list (Err (error.Short events next)) = IsShort (flight_of spec script) list events next
AnswersReplay spec script list (Err error.NoMemory) = ⊤
