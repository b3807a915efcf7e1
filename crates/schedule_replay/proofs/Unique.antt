-- A list of events leads to only one state, and has only one answer apart from out of memory.
use Rattle.std.proofs.Common.{ℕ, zero, suc, ◌≡◌, ◌≢◌, ◌<◌, ◌∙◌, List, [], ◌∷◌, Option, Some, Result, Ok, Err, take, arith, refl, sym, ap, subst, inl, inr}
use Rattle.std.specs.Prelude.{slice_get}
use Rattle.std.proofs.lemmas.Bool.{cases_order}
use Rattle.scram_types.specs.Scripts.{ScriptParts}
use Rattle.scram_types.specs.Specification.{Parts}
use Rattle.scram_types.specs.declared.rows.Flown.{Flown}
use Rattle.scram_types.proofs.Options.{same_some}
use Rattle.bank_words.specs.declared.events.Event.{Event}
use Rattle.bank_words.specs.declared.events.Event.TheVariants.{Start, Look, Store, Flip, Done, Halt, KNote, KStore, Release}
use Rattle.event_core.specs.Replays.{IsReplay}
use Rattle.event_core.proofs.Replays.{kernel_same, next_moved, next_same}
use Rattle.fail_stop.specs.Ends.{IsOver}
use Rattle.fail_stop.specs.Events.{IsNext, IsStored, Places, Word, next_of_actor}
use Rattle.fail_stop.specs.Flights.{Flight}
use Rattle.fail_stop.specs.Schedules.{IsSchedule, Machine, happened, opening}
use Rattle.fail_stop.specs.ScriptFlights.{flight_of}
use Rattle.schedule_replay.specs.declared.replays.ReplayError.{ReplayError}
use Rattle.schedule_replay.specs.declared.replays.ReplayError.TheVariants as error
use Rattle.schedule_replay.specs.Laws.{OneAnswer}
use Rattle.schedule_replay.specs.Replaying.{AnswersReplay, IsIllegal, IsShort, IsWholeSchedule, first_next, next_below}

module _ (m : Flight) where
  -- A list of events that is a schedule leads to only one state.
  one_state : (s : Machine) (es : List Event) (t u : Machine) → IsSchedule m s es t → IsSchedule m s es u → t ≡ u
  one_state s [] t u i j = i ∙ sym j
  one_state s (e ∷ es) t u i j = one_state (happened m s e) es t u i.1 j.1

  record NextIn (s : Machine) (list : List Event) (index : ℕ) (event : Event) : Type 0 where
    there : Machine
    schedule : IsSchedule m s (take index list) there
    next : IsNext m there.at there.words event

  next_in : (s : Machine) (es : List Event) (t : Machine) (index : ℕ) (event : Event) → IsSchedule m s es t → slice_get es index ≡ Some event → NextIn s es index event
  next_in s [] t index event i h = absurd (let e = h in cc)
  next_in s (e ∷ es) t zero event i h =
      record { there = s; schedule = refl; next = subst (λ (x : Event). IsNext m s.at s.words x) (same_some e event h) i.0 }
  next_in s (e ∷ es) t (suc index) event i h =
      let more = next_in (happened m s e) es t index event i.1 h in
      record { there = more.there; schedule = (i.0, more.schedule); next = more.next }

  -- If a list of events is a schedule, then each of its events is the next of its actor.
  in_turn : (list : List Event) (at : Places) (words : Word → ℕ) (index : ℕ) (given : Event) (told : Option Event) → IsReplay m list at words → IsIllegal m list index given told → ⊥
  in_turn list at words index given told r j =
      let n = next_in (opening m) list r.state index given r.schedule j.there in
      let same = one_state (opening m) (take index list) n.there j.before.state n.schedule j.before.schedule in
      let next : IsNext m j.before.state.at j.before.state.words given = subst (λ (s : Machine). IsNext m s.at s.words given) same n.next in
      let placed : IsNext m j.at j.before.state.words given = subst (λ (a : Places). IsNext m a j.before.state.words given) (sym j.before.places_are) next in
      let here : IsNext m j.at j.words given = next_moved m j.at j.before.state.words j.words (λ w s. sym (j.before.words_are w s)) given placed in
      j.not_next (j.next_is ∙ by_actor given here)
    where
      by_actor : (e : Event) → IsNext m j.at j.words e → next_of_actor m j.at j.words e ≡ Some e
      by_actor (Start p) is = is
      by_actor (Look p q) is = is
      by_actor (Store p x) is = is
      by_actor (Flip p) is = is
      by_actor (Done p) is = is
      by_actor (Halt p) is = is
      by_actor (KNote p) is = is
      by_actor (KStore x) is = is
      by_actor Release is = is

  -- The places are the same, and so is each word that is stored.
  record Agrees (at : Places) (words : Word → ℕ) (at2 : Places) (words2 : Word → ℕ) : Type 0 where
    places : at ≡ at2
    words_are : (w : Word) → IsStored m w → words w ≡ words2 w

  agree : (list : List Event) (at : Places) (words : Word → ℕ) (at2 : Places) (words2 : Word → ℕ) → IsReplay m list at words → IsReplay m list at2 words2 → Agrees at words at2 words2
  agree list at words at2 words2 r s =
      let same = one_state (opening m) list r.state s.state r.schedule s.schedule in
      record {
        places = r.places_are ∙ ap (λ (x : Machine). x.at) same ∙ sym s.places_are;
        words_are = λ w t. r.words_are w t ∙ ap (λ (x : Machine). x.words w) same ∙ sym (s.words_are w t);
      }

  module _ (at : Places) (words words2 : Word → ℕ) (same : (w : Word) → IsStored m w → words w ≡ words2 w) where
    actor_same : (e : Event) → next_of_actor m at words e ≡ next_of_actor m at words2 e
    actor_same (Start p) = next_same m at words words2 same p.0
    actor_same (Look p q) = next_same m at words words2 same p.0
    actor_same (Store p x) = next_same m at words words2 same p.0
    actor_same (Flip p) = next_same m at words words2 same p.0
    actor_same (Done p) = next_same m at words words2 same p.0
    actor_same (Halt p) = next_same m at words words2 same p.0
    actor_same (KNote p) = kernel_same m at words words2 same
    actor_same (KStore x) = kernel_same m at words words2 same
    actor_same Release = kernel_same m at words words2 same

    below_same : (n : ℕ) → next_below m at words n ≡ next_below m at words2 n
    below_same zero = refl
    below_same (suc n) = rw (below_same n, next_same m at words words2 same n) refl

    first_same : first_next m at words ≡ first_next m at words2
    first_same = rw (below_same m.procs, kernel_same m at words words2 same) refl

  moved_first : (at : Places) (words : Word → ℕ) (at2 : Places) (words2 : Word → ℕ) → Agrees at words at2 words2 → first_next m at words ≡ first_next m at2 words2
  moved_first at words at2 words2 a = first_same at words words2 a.words_are ∙ ap (λ (p : Places). first_next m p words2) a.places

  moved_actor : (at : Places) (words : Word → ℕ) (at2 : Places) (words2 : Word → ℕ) (e : Event) → Agrees at words at2 words2 → next_of_actor m at words e ≡ next_of_actor m at2 words2 e
  moved_actor at words at2 words2 e a = actor_same at words words2 a.words_are e ∙ ap (λ (p : Places). next_of_actor m p words2 e) a.places

  -- Lemmas that two answers to one list of events are the same, apart from out of memory.

  not_both : (list : List Event) → IsWholeSchedule m list → (events : ℕ) (next : Event) → IsShort m list events next → ⊥
  not_both list w events next s = let a = agree list w.at w.words s.at s.words w.replay s.replay in s.going (subst (λ (p : Places). IsOver m p) a.places w.over)

  one_short : (list : List Event) (events : ℕ) (next : Event) (events2 : ℕ) (next2 : Event) → IsShort m list events next → IsShort m list events2 next2 → (events ≡ events2) × (next ≡ next2)
  one_short list events next events2 next2 s t =
      let a = agree list s.at s.words t.at t.words s.replay t.replay in
      (s.count ∙ sym t.count, same_some next next2 (sym s.next_is ∙ moved_first s.at s.words t.at t.words a ∙ t.next_is))

  cut : (list : List Event) (i j : ℕ) (given : Event) (next : Option Event) → i < j → IsIllegal m list i given next → IsIllegal m (take j list) i given next
  cut list i j given next less x = record {
    at = x.at;
    words = x.words;
    before = subst (λ (l : List Event). IsReplay m l x.at x.words) (sym (taken_again list i j less)) x.before;
    there = got_again list i j less ∙ x.there;
    next_is = x.next_is;
    not_next = x.not_next;
  }
    where
      taken_again : (list : List Event) (i j : ℕ) → i < j → take i (take j list) ≡ take i list
      taken_again list zero j less = refl
      taken_again list (suc i) zero less = absurd (omega arith)
      taken_again [] (suc i) (suc j) less = refl
      taken_again (x ∷ list) (suc i) (suc j) less = ap (λ (l : List Event). x ∷ l) (taken_again list i j (omega arith))

      got_again : (list : List Event) (i j : ℕ) → i < j → slice_get (take j list) i ≡ slice_get list i
      got_again list i zero less = absurd (omega arith)
      got_again [] i (suc j) less = refl
      got_again (x ∷ list) zero (suc j) less = refl
      got_again (x ∷ list) (suc i) (suc j) less = got_again list i j (omega arith)

  module _ (list : List Event) (x y : Event) (next next2 : Option Event) where
    earlier : (i j : ℕ) → i < j → IsIllegal m list i x next → IsIllegal m list j y next2 → ⊥
    earlier i j less one other = in_turn (take j list) other.at other.words i x next other.before (cut list i j x next less one)

    here_same : (i : ℕ) → IsIllegal m list i x next → IsIllegal m list i y next2 → (x ≡ y) × (next ≡ next2)
    here_same i one other =
        let given : x ≡ y = same_some x y (sym one.there ∙ other.there) in
        let a = agree (take i list) one.at one.words other.at other.words one.before other.before in
        (given, one.next_is ∙ moved_actor one.at one.words other.at other.words x a ∙ ap (next_of_actor m other.at other.words) given ∙ sym other.next_is)

  one_illegal : (list : List Event) (i j : ℕ) (x y : Event) (next next2 : Option Event) → IsIllegal m list i x next → IsIllegal m list j y next2 → (i ≡ j) × (x ≡ y) × (next ≡ next2)
  one_illegal list i j x y next next2 one other = elim (cases_order i j) [
    | inl same ↦ let here = here_same list x y next next2 i one (subst (λ (k : ℕ). IsIllegal m list k y next2) (sym same) other) in (same, here.0, here.1)
    | inr apart ↦ absurd (elim apart [
      | inl less ↦ earlier list x y next next2 i j less one other
      | inr more ↦ earlier list y x next2 next j i more other one
    ])
  ]

same_flown : (one other : Flown) → one.rows ≡ other.rows → one.reports ≡ other.reports → one ≡ other
same_flown one other rows reports = ap (λ r. record { rows = r; reports = one.reports }) rows ∙ ap (λ r. record { rows = other.rows; reports = r }) reports

module _ (spec : Parts) (script : ScriptParts) (list : List Event) where
  by_both : (one other : Result Flown ReplayError) → one ≢ Err error.NoMemory → other ≢ Err error.NoMemory
      → AnswersReplay spec script list one → AnswersReplay spec script list other → one ≡ other
  by_both (Ok one) (Ok other) a b x y = ap (λ (f : Flown). Ok f) (same_flown one other (x.1 ∙ sym y.1) (x.2 ∙ sym y.2))
  by_both (Ok one) (Err (error.Illegal index given next)) a b x y = absurd (in_turn (flight_of spec script) list x.0.at x.0.words index given next x.0.replay y)
  by_both (Ok one) (Err (error.Short events next)) a b x y = absurd (not_both (flight_of spec script) list x.0 events next y)
  by_both (Ok one) (Err error.NoMemory) a b x y = absurd (b refl)
  by_both (Err (error.Illegal index given next)) (Ok other) a b x y = absurd (in_turn (flight_of spec script) list y.0.at y.0.words index given next y.0.replay x)
  by_both (Err (error.Illegal i one next)) (Err (error.Illegal j other next2)) a b x y =
      let same = one_illegal (flight_of spec script) list i j one other next next2 x y in
      ap (λ (k : ℕ). Err (error.Illegal k one next)) same.0 ∙ ap (λ (e : Event). Err (error.Illegal j e next)) same.1 ∙ ap (λ (o : Option Event). Err (error.Illegal j other o)) same.2
  by_both (Err (error.Illegal index given told)) (Err (error.Short events next)) a b x y = absurd (in_turn (flight_of spec script) list y.at y.words index given told y.replay x)
  by_both (Err (error.Illegal index given next)) (Err error.NoMemory) a b x y = absurd (b refl)
  by_both (Err (error.Short events next)) (Ok other) a b x y = absurd (not_both (flight_of spec script) list y.0 events next x)
  by_both (Err (error.Short events next)) (Err (error.Illegal index given told)) a b x y = absurd (in_turn (flight_of spec script) list x.at x.words index given told x.replay y)
  by_both (Err (error.Short events next)) (Err (error.Short events2 next2)) a b x y =
      let same = one_short (flight_of spec script) list events next events2 next2 x y in
      ap (λ (k : ℕ). Err (error.Short k next)) same.0 ∙ ap (λ (e : Event). Err (error.Short events2 e)) same.1
  by_both (Err (error.Short events next)) (Err error.NoMemory) a b x y = absurd (b refl)
  by_both (Err error.NoMemory) other a b x y = absurd (a refl)

pub one_answer : OneAnswer
one_answer spec script list one other a b x y = by_both spec script list one other a b x y
