-- A history as a schedule.
use Rattle.std.specs.Prelude.{◌≡◌, ℕ, List}
use Rattle.bank_words.specs.declared.events.Event.{Event}
use Rattle.fail_stop.specs.Events.{IsStored, Places, Word}
use Rattle.fail_stop.specs.Flights.{Flight}
use Rattle.fail_stop.specs.Schedules.{IsSchedule, Machine, opening}

-- The events are a schedule from the opening to a state with the places `at`. Each stored word has in `words` the
-- value that it has in this state.
pub record IsReplay (m : Flight) (events : List Event) (at : Places) (words : Word → ℕ) : Type 0 where
  pub state : Machine
  pub schedule : IsSchedule m (opening m) events state
  pub places_are : at ≡ state.at
  pub words_are : (w : Word) → IsStored m w → words w ≡ state.words w
