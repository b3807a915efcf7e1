-- Schedules that are chosen by a rule.
use Rattle.std.specs.Prelude.{◌≡◌, ℕ, List, [], ◌∷◌, Some}
use Rattle.bank_words.specs.declared.events.Event.{Event}
use Rattle.event_core.specs.Cores.{CoreParts, core_flight, core_places, core_words}
use Rattle.event_core.specs.Replays.{IsReplay}
use Rattle.fail_stop.specs.Events.{Places, Word}
use Rattle.fail_stop.specs.Flights.{Flight}
use Rattle.fail_stop.specs.Schedules.{Machine, happened, opening}
use Rattle.test_schedules.specs.Choices.{chooser_after, chosen, first_chooser}
use Rattle.test_schedules.specs.declared.choices.Chooser.{Chooser}
use Rattle.test_schedules.specs.declared.choices.Rule.{Rule}

-- The events take the machine from state `s` to state `t` and the chooser to `last`. Each event is the next event of
-- the actor that the chooser chooses in the state before it.
abbrev pub AreChosen : Flight → Chooser → Machine → List Event → Chooser → Machine → Type 0
AreChosen m chooser s [] last t = (last ≡ chooser) × (t ≡ s)
AreChosen m chooser s (e ∷ es) last t =
    (place : ℕ) × (chosen m s.at s.words chooser ≡ Some (place, e)) × AreChosen m (chooser_after chooser place) (happened m s e) es last t

-- The events are a schedule from the opening state to a state with the places `at` and the words `words`. The rule
-- chooses each event.
pub record IsByRule (m : Flight) (rule : Rule) (events : List Event) (at : Places) (words : Word → ℕ) : Type 0 where
  pub replay : IsReplay m events at words
  pub chooser : Chooser
  pub chosen_are : AreChosen m (first_chooser rule) (opening m) events chooser replay.state

-- The rule chooses each event of a core's history.
abbrev pub IsFlownBy : Rule → CoreParts → Type 0
IsFlownBy rule core = IsByRule (core_flight core) rule core.history (core_places core) (core_words core)
