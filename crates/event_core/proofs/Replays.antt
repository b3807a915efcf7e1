-- If the next event of an actor is appended to a history, the result is a schedule again.
use Rattle.std.proofs.Common.{◌≡◌, ◌∙◌, ℕ, ◌<◌, Bool, true, false, refl, ap, sym, subst, arith, List, [], ◌∷◌, ◌++◌}
use Rattle.std.specs.Prelude.{Option, Some, None, nat_lt, if◌then◌else◌}
use Rattle.std.proofs.lemmas.Bool.Decides.{nat_tests}
use Rattle.bank_words.specs.declared.events.Event.{Event}
use Rattle.bank_words.specs.declared.events.Event.TheVariants.{Start, Look, Store, Flip, Done, Halt, KNote, KStore, Release}
use Rattle.scram_types.specs.Lookups.{proc_id}
use Rattle.std.proofs.Math.Path.{fun_ext}
use Rattle.fail_stop.specs.Events.{EndWord, IsNext, IsStored, MarkWord, Place, Places, ReleaseWord, Word, may_note, next_from, next_kernel, next_of, places_after, same_word, writes, written}
use Rattle.fail_stop.specs.Listed.{Moves}
use Rattle.fail_stop.proofs.Plans.{gate, is_less}
use Rattle.fail_stop.specs.Flights.{Flies, Flight}
use Rattle.fail_stop.specs.Kept.{Kept}
use Rattle.fail_stop.specs.Schedules.{IsSchedule, Machine, happened, opening}
use Rattle.fail_stop.proofs.EachState.{each_state}
use Rattle.event_core.specs.Replays.{IsReplay}

more : (m : Flight) (s : Machine) (es : List Event) (t : Machine) (e : Event) → IsSchedule m s es t → IsNext m t.at t.words e → IsSchedule m s (es ++ e ∷ []) (happened m t e)
more m s [] t e is next = (subst (λ (t : Machine). IsNext m t.at t.words e) is next, ap (λ (t : Machine). happened m t e) is)
more m s (x ∷ es) t e is next = (is.0, more m (happened m s x) es t e is.1 next)

-- If two assignments of words agree on the stored words, then each actor has the same next event under both.
module _ (m : Flight) (at : Places) (v w : Word → ℕ) (same : (x : Word) → IsStored m x → v x ≡ w x) where
  pub next_same : (p : ℕ) → next_of m at v p ≡ next_of m at w p
  next_same p = ap (λ r. if nat_lt p m.procs then next_from m p r (at.proc p) else None) (same ReleaseWord tt)

  note_same : (b : Bool) (e : Option Event) → nat_lt at.step m.procs ≡ b
      → (if b then (if may_note m at.step at.frame (v (EndWord at.step)) then Some (KNote (proc_id at.step)) else None) else e)
      ≡ (if b then (if may_note m at.step at.frame (w (EndWord at.step)) then Some (KNote (proc_id at.step)) else None) else e)
  note_same true e is =
      let low : at.step < m.procs = grind (arith, nat_tests, is) in
      ap (λ end. if may_note m at.step at.frame end then Some (KNote (proc_id at.step)) else None) (same (EndWord at.step) low)
  note_same false e is = refl

  pub kernel_same : next_kernel m at v ≡ next_kernel m at w
  kernel_same = ap (λ o. if nat_lt at.frame m.frames then o else None) (note_same (nat_lt at.step m.procs) _ refl)

  pub next_moved : (e : Event) → IsNext m at v e → IsNext m at w e
  next_moved (Start p) i = sym (next_same p.0) ∙ i
  next_moved (Look p q) i = sym (next_same p.0) ∙ i
  next_moved (Store p x) i = sym (next_same p.0) ∙ i
  next_moved (Flip p) i = sym (next_same p.0) ∙ i
  next_moved (Done p) i = sym (next_same p.0) ∙ i
  next_moved (Halt p) i = sym (next_same p.0) ∙ i
  next_moved (KNote p) i = sym kernel_same ∙ i
  next_moved (KStore x) i = sym kernel_same ∙ i
  next_moved Release i = sym kernel_same ∙ i

-- The places and words to which a history leads satisfy the invariant `Kept`.
pub replay_kept : (m : Flight) (events : List Event) (at : Places) (words : Word → ℕ) → Flies m → IsReplay m events at words → Kept m at words
replay_kept m events at words y r =
    let k = each_state m events r.state y r.schedule in
    let moved : Kept m at r.state.words = subst (λ (a : Places). Kept m a r.state.words) (sym r.places_are) k in
    record { kernel = moved.kernel; placed = moved.placed; words_are = λ w s. r.words_are w s ∙ moved.words_are w s }

-- If two assignments of words agree on the stored words, then each event writes the same word under both.
module _ (m : Flight) (at : Places) (v w : Word → ℕ) (same : (x : Word) → IsStored m x → v x ≡ w x) where
  acts : (p : ℕ) (e : Event) → next_of m at v p ≡ Some e → p < m.procs
  acts p e i = is_less p m.procs (gate (nat_lt p m.procs) (next_from m p (v ReleaseWord) (at.proc p)) e i).0

  writes_same : (e : Event) → IsNext m at v e → writes m at v e ≡ writes m at w e
  writes_same (Store p x) i = rw (same (MarkWord p.0) (acts p.0 (Store p x) i)) refl
  writes_same (Flip p) i = rw (same (MarkWord p.0) (acts p.0 (Flip p) i)) refl
  writes_same (Start p) i = refl
  writes_same (Look p q) i = refl
  writes_same (Done p) i = refl
  writes_same (Halt p) i = refl
  writes_same (KNote p) i = refl
  writes_same (KStore x) i = refl
  writes_same Release i = refl

  written_same : (o : Option (Word × ℕ)) (x : Word) → IsStored m x → written o v x ≡ written o w x
  written_same None x s = same x s
  written_same (Some t) x s = ap (λ old. if same_word t.0 x then t.1 else old) (same x s)

pub places_same : (a b : Places) → ((q : ℕ) → a.proc q ≡ b.proc q) → a.frame ≡ b.frame → a.step ≡ b.step → a ≡ b
places_same a b procs frame step =
    ap (λ (f : ℕ → Place). record { proc = f; frame = a.frame; step = a.step }) (fun_ext procs)
    ∙ ap (λ (f : ℕ). record { proc = b.proc; frame = f; step = a.step }) frame ∙ ap (λ (n : ℕ). record { proc = b.proc; frame = b.frame; step = n }) step

-- If an event is the next of its actor at the kept places and words, then it is the next in the state to which the
-- history leads.
pub next_there : (m : Flight) (events : List Event) (at : Places) (words : Word → ℕ) (e : Event) → (r : IsReplay m events at words) → IsNext m at words e → IsNext m r.state.at r.state.words e
next_there m events at words e r next = subst (λ (a : Places). IsNext m a r.state.words e) r.places_are (next_moved m at words r.state.words r.words_are e next)

-- A history with the next event at its end is a schedule that leads to the places and words after the event.
pub replay_on : (m : Flight) (events : List Event) (at at2 : Places) (words words2 : Word → ℕ) (e : Event) → (r : IsReplay m events at words) → IsNext m at words e → Moves m at e at2
    → ((w : Word) → IsStored m w → words2 w ≡ written (writes m at words e) words w)
    → (more : IsReplay m (events ++ e ∷ []) at2 words2) × (more.state ≡ happened m r.state e)
replay_on m events at at2 words words2 e r next moves written_are =
    let there = next_there m events at words e r next in (
      record {
        state = happened m r.state e;
        schedule = more m (opening m) events r.state e r.schedule there;
        places_are = places_same at2 (places_after m at e) moves.proc moves.frame moves.step ∙ ap (λ (a : Places). places_after m a e) r.places_are;
        words_are = λ w s. written_are w s
            ∙ ap (λ o. written o words w) (writes_same m at words r.state.words r.words_are e next)
            ∙ written_same m at words r.state.words r.words_are (writes m at r.state.words e) w s
            ∙ ap (λ (a : Places). written (writes m a r.state.words e) r.state.words w) r.places_are;
      },
      refl,
    )

pub replay_more : (m : Flight) (events : List Event) (at at2 : Places) (words words2 : Word → ℕ) (e : Event) → IsReplay m events at words → IsNext m at words e → Moves m at e at2
    → ((w : Word) → IsStored m w → words2 w ≡ written (writes m at words e) words w) → IsReplay m (events ++ e ∷ []) at2 words2
replay_more m events at at2 words words2 e r next moves written_are = (replay_on m events at at2 words words2 e r next moves written_are).0
