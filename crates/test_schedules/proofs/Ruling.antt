-- If a rule has chosen each event of a history, the event that it chooses next can be appended to the history.
use Rattle.std.proofs.Common.{◌≡◌, ◌∙◌, ℕ, ◌-◌, Bool, refl, ap, sym, subst, List, [], ◌∷◌, ◌++◌}
use Rattle.std.specs.Prelude.{Option, Some, None, IfSome, nat_eq, option_map, if◌then◌else◌}
use Rattle.std.proofs.Math.Path.{fun_ext}
use Rattle.scram_types.specs.Scripts.{ScriptParts}
use Rattle.scram_types.specs.Specification.{Parts}
use Rattle.bank_words.specs.declared.events.Event.{Event}
use Rattle.fail_stop.specs.Events.{Happens, IsNext, IsStored, Places, Word, next_kernel, next_of}
use Rattle.fail_stop.specs.Flights.{Flight}
use Rattle.fail_stop.specs.Schedules.{IsSchedule, Machine, happened, opening}
use Rattle.fail_stop.specs.ScriptFlights.{flight_of}
use Rattle.event_core.specs.Cores.{CoreParts, core_places, core_words, core_flight}
use Rattle.event_core.specs.Replays.{IsReplay}
use Rattle.event_core.proofs.Replays.{kernel_same, next_same, replay_on}
use Rattle.test_schedules.specs.Choices.{begin_of, chooser_after, chosen, first_chooser, first_from, is_backwards, next_in_order}
use Rattle.test_schedules.specs.Ruled.{AreChosen, IsByRule}
use Rattle.test_schedules.specs.declared.choices.Chooser.{Chooser}
use Rattle.test_schedules.specs.declared.choices.Rule.{Rule}

-- The rule chooses the events of a history, and the chooser after them is `chooser`.
abbrev pub IsRuledTo : Flight → Rule → Chooser → List Event → Places → (Word → ℕ) → Type 0
IsRuledTo m rule chooser events at words = (b : IsByRule m rule events at words) × (b.chooser ≡ chooser)

none_before : (m : Flight) (rule : Rule) (events : List Event) (state : Machine) → [] ≡ events → IsSchedule m (opening m) events state
    → AreChosen m (first_chooser rule) (opening m) events (first_chooser rule) state
none_before m rule [] state is schedule = (refl, schedule)
none_before m rule (e ∷ es) state is schedule = cc

pub ruled_opening : (m : Flight) (rule : Rule) (events : List Event) (at : Places) (words : Word → ℕ) (chooser : Chooser) → events ≡ [] → chooser ≡ first_chooser rule → IsReplay m events at words
    → IsRuledTo m rule chooser events at words
ruled_opening m rule events at words chooser none is replay =
    (record { replay = replay; chooser = first_chooser rule; chosen_are = none_before m rule events replay.state (sym none) replay.schedule }, sym is)

chosen_more : (m : Flight) (chooser : Chooser) (s : Machine) (es : List Event) (last : Chooser) (t : Machine) (place : ℕ) (e : Event)
    → AreChosen m chooser s es last t → chosen m t.at t.words last ≡ Some (place, e) → AreChosen m chooser s (es ++ e ∷ []) (chooser_after last place) (happened m t e)
chosen_more m chooser s [] last t place e is next =
    let at_t : chosen m t.at t.words chooser ≡ Some (place, e) = subst (λ (c : Chooser). chosen m t.at t.words c ≡ Some (place, e)) is.0 next in
    let at_s : chosen m s.at s.words chooser ≡ Some (place, e) = subst (λ (u : Machine). chosen m u.at u.words chooser ≡ Some (place, e)) is.1 at_t in
    (place, at_s, (ap (λ (c : Chooser). chooser_after c place) is.0, ap (λ (u : Machine). happened m u e) is.1))
chosen_more m chooser s (x ∷ es) last t place e is next = (is.0, is.1, chosen_more m (chooser_after chooser is.0) (happened m s x) es last t place e is.2 next)

-- If two assignments of words agree on the words that are stored, the rule makes the same choice for both.
module _ (m : Flight) (at : Places) (v w : Word → ℕ) (same : (x : Word) → IsStored m x → v x ≡ w x) where
  order_same : (backwards : Bool) (place : ℕ) → next_in_order m at v backwards place ≡ next_in_order m at w backwards place
  order_same backwards place =
      ap (λ o. if nat_eq place m.procs then o else next_of m at v (if backwards then m.procs - 1 - place else place)) (kernel_same m at v w same)
      ∙ ap (λ o. if nat_eq place m.procs then next_kernel m at w else o) (next_same m at v w same (if backwards then m.procs - 1 - place else place))

  chosen_same : (chooser : Chooser) → chosen m at v chooser ≡ chosen m at w chooser
  chosen_same chooser = ap (λ (next : ℕ → Option Event). first_from next m.procs (begin_of m.procs chooser)) (fun_ext (order_same (is_backwards chooser.rule)))

ruled_more : (m : Flight) (rule : Rule) (chooser : Chooser) (events : List Event) (at at2 : Places) (words words2 : Word → ℕ) (e : Event) (place : ℕ) → IsRuledTo m rule chooser events at words
    → chosen m at words chooser ≡ Some (place, e) → IsNext m at words e → Happens m at words e at2 words2 → IsRuledTo m rule (chooser_after chooser place) (events ++ e ∷ []) at2 words2
ruled_more m rule chooser events at at2 words words2 e place ruled is next happens =
    let b = ruled.0 in
    let here : chosen m at b.replay.state.words chooser ≡ Some (place, e) = sym (chosen_same m at words b.replay.state.words b.replay.words_are chooser) ∙ is in
    let there : chosen m b.replay.state.at b.replay.state.words chooser ≡ Some (place, e) =
    subst (λ (a : Places). chosen m a b.replay.state.words chooser ≡ Some (place, e)) b.replay.places_are here in
    let by_last : chosen m b.replay.state.at b.replay.state.words b.chooser ≡ Some (place, e) =
    subst (λ (c : Chooser). chosen m b.replay.state.at b.replay.state.words c ≡ Some (place, e)) (sym ruled.1) there in
    let more = replay_on m events at at2 words words2 e b.replay next (record { proc = happens.proc; frame = happens.frame; step = happens.step }) happens.words_are in
    let longer = chosen_more m (first_chooser rule) (opening m) events b.chooser b.replay.state place e b.chosen_are by_last in (
      record {
        replay = more.0;
        chooser = chooser_after b.chooser place;
        chosen_are = subst (λ (t : Machine). AreChosen m (first_chooser rule) (opening m) (events ++ e ∷ []) (chooser_after b.chooser place) t) (sym more.1) longer;
      },
      ap (λ (c : Chooser). chooser_after c place) ruled.1,
    )

-- If an event is chosen, there is a place of its actor, and the later chooser is the chooser after that place.
place_of : (o : Option (ℕ × Event)) (e : Event) (chooser later : Chooser) → Some e ≡ option_map (λ found. found.1) o → IfSome o (λ found. later ≡ chooser_after chooser found.0)
    → (place : ℕ) × (o ≡ Some (place, e)) × (later ≡ chooser_after chooser place)
place_of None e chooser later is after = cc
place_of (Some found) e chooser later is after = let same : found.1 ≡ e = cc in (found.0, ap (λ x. Some (found.0, x)) same, after)

ruled_by : (m : Flight) (rule : Rule) (chooser later : Chooser) (events events2 : List Event) (at at2 : Places) (words words2 : Word → ℕ) (e : Event) → IsRuledTo m rule chooser events at words
    → Some e ≡ option_map (λ found. found.1) (chosen m at words chooser) → IfSome (chosen m at words chooser) (λ found. later ≡ chooser_after chooser found.0)
    → IsNext m at words e → Happens m at words e at2 words2 → events2 ≡ events ++ e ∷ [] → IsRuledTo m rule later events2 at2 words2
ruled_by m rule chooser later events events2 at at2 words words2 e ruled is after next happens longer =
    let who = place_of (chosen m at words chooser) e chooser later is after in
    subst (λ (c : Chooser). IsRuledTo m rule c events2 at2 words2) (sym who.2)
    (subst (λ (l : List Event). IsRuledTo m rule (chooser_after chooser who.0) l at2 words2) (sym longer) (ruled_more m rule chooser events at at2 words words2 e who.0 ruled who.1 next happens))

flown_same : (core core2 : CoreParts) → core2.spec ≡ core.spec → core2.script ≡ core.script → core_flight core ≡ core_flight core2
flown_same core core2 spec script = ap (λ (spec : Parts). flight_of spec core.script) (sym spec) ∙ ap (λ (script : ScriptParts). flight_of core2.spec script) (sym script)

-- If the rule chooses an event of a core, the history of the core after the event is chosen by the rule.
pub ruled_on : (core core2 : CoreParts) (rule : Rule) (chooser later : Chooser) (e : Event) → IsRuledTo (core_flight core) rule chooser core.history (core_places core) (core_words core)
    → core2.spec ≡ core.spec → core2.script ≡ core.script
    → Some e ≡ option_map (λ found. found.1) (chosen (core_flight core) (core_places core) (core_words core) chooser)
    → IfSome (chosen (core_flight core) (core_places core) (core_words core) chooser) (λ found. later ≡ chooser_after chooser found.0)
    → IsNext (core_flight core) (core_places core) (core_words core) e → Happens (core_flight core) (core_places core) (core_words core) e (core_places core2) (core_words core2)
    → core2.history ≡ core.history ++ e ∷ [] → IsRuledTo (core_flight core2) rule later core2.history (core_places core2) (core_words core2)
ruled_on core core2 rule chooser later e ruled spec script is after next happens longer =
    subst (λ (m : Flight). IsRuledTo m rule later core2.history (core_places core2) (core_words core2)) (flown_same core core2 spec script)
    (ruled_by (core_flight core) rule chooser later core.history core2.history (core_places core) (core_places core2) (core_words core) (core_words core2) e ruled is after next happens longer)
