-- Each kind of step keeps `Ruled`, the rule of the table, and has the effect that `Plays` defines for it.
use Rattle.std.proofs.Common.{◌≡◌, ℕ, zero, suc, ◌+◌, ◌-◌, ◌*◌, ◌%◌, ◌<◌, ◌≤◌, Bool, true, false, refl, sym, ap, subst, ◌∙◌, arith, List, [], ◌∷◌}
use Rattle.std.specs.Prelude.{Option, Some, None, IfSome, nat_eq, nat_lt, slice_index, slice_set}
use Rattle.std.specs.Bool.{MatchBool}
use Rattle.std.proofs.lemmas.Bool.{eq-eqb, le-ltb, lt-ltb}
use Rattle.std.proofs.lemmas.Bool.Decides.{nat_tests}
use mathlib.Core.Option.{some, none}
use lib.ListN.{get_elem?}
use Rattle.scram_types.specs.Lookups.{proc_id}
use Rattle.bank_words.specs.declared.events.Event.TheVariants.{Start, Look, Store, Flip, Done, Halt, KNote, KStore, Release}
use Rattle.coverage_check.specs.Missions.{MissionParts}
use Rattle.atomic_table.specs.Table.{State, Act, keeps, Allows, stepped, Valid, carried_after, step}
use Rattle.fail_stop.specs.Events.{Place, At, Halted, KernelWord, MarkWord, EndWord, BankWord, IsNext, moved, plan, may_note, next_from, writes}
use Rattle.fail_stop.specs.Flights.{Flight, word_in, side, mark_before}
use Rattle.fail_stop.specs.Kept.{mark_at}
use Rattle.fail_stop.specs.Listed.{index_of, list_after, stored_in}
use Rattle.fail_stop.proofs.ProcessorEvents.{side_of, unflipped}
use Rattle.word_table.specs.declared.actors.Actor.{Actor}
use Rattle.word_table.specs.declared.actors.Actor.TheVariants.{Runs, Stopped, Kernel}
use Rattle.word_table.specs.declared.actors.View.{View}
use Rattle.word_table.specs.Actors.{Waits, actor_at, awaited, begun, halted_actor, mission_flight, next_frame, one_more, restart_or, tried}
use Rattle.word_table.specs.Plays.{AwaitsEnd, AwaitsRelease, MovesIfWaiting, Has, Sat, StepsIf, IsAfterNote, IsAfterStart, can_note, confirms, each_actor, finishes_frame, halts, looks, may_start, notes, reads, starts, stores, word_due}
use Rattle.word_table.specs.Rule.{Ruled}
use Rattle.word_table.proofs.Seating.{IsSound, kernel_by, kernel_stands, loaded, set_same, shown, stands, stepped_by}

module _ (mission : MissionParts) (slots id : ℕ) (me : Sat) (y : IsSound (mission_flight mission)) (empty : me.1 ≡ []) where
  abbrev m : Flight
  m = mission_flight mission

  -- A load that is not an event keeps the rule.
  pub read_allows : (i : ℕ) → me.0.mission ≡ Some mission → Allows (Ruled m mission) slots id me i (λ n. n) (reads (step slots i 0 0 none) me)
  read_allows i planned = λ s r homes here small.
      (me.0, keeps, tt, loaded m mission s id me.0 y r here me.0 i refl refl, ((refl, empty), shown mission s id me.0 i r here planned))

  -- Lemmas on the load that a seat with only one actor makes in place of a store. If the load finds the word `v` that
  -- the store would write, the actor has made a step. Otherwise the seat does not change.
  module _ (a : Actor) (v : ℕ) (alone : me.0.actors ≡ a ∷ []) (planned : me.0.mission ≡ Some mission) (due : word_due m (a ∷ []) ≡ v) where
    confirm_told : (i : ℕ) (w : View) (n : ℕ) (b : Bool) → nat_eq n v ≡ b → MatchBool b (Has (w, me.1) (each_actor one_more me.0)) (Has (w, me.1) me.0) → confirms (step slots i 0 0 none) me n (w, me.1)
    confirm_told i w n b is told =
        subst (λ (o : Option MissionParts). IfSome o (λ mission. StepsIf (nat_eq n (word_due (mission_flight mission) me.0.actors)) me.0 (w, me.1))) (sym planned)
        (subst (λ (actors : List Actor). StepsIf (nat_eq n (word_due m actors)) me.0 (w, me.1)) (sym alone) (rw (due, is) told))

    confirm_by : (i : ℕ) (s : State (Unit {0}) View) (r : Ruled m mission s) → get_elem? s.views id ≡ some me.0 → (slice_index s.words i ≡ v → Ruled m mission (stepped s i (slice_index s.words i) id me.1 (each_actor one_more me.0) keeps))
        → (b : Bool) → nat_eq (slice_index s.words i) v ≡ b
        → (w : View) × (act : Act (Unit {0})) × Valid s.homes me.1 act × Ruled m mission (stepped s i (slice_index s.words i) id me.1 w act) × confirms (step slots i 0 0 none) me (slice_index s.words i) (w, carried_after me.1 act)
    confirm_by i s r here made false b = (me.0, keeps, tt, loaded m mission s id me.0 y r here me.0 i refl refl, confirm_told i me.0 (slice_index s.words i) false b (refl, empty))
    confirm_by i s r here made true b =
        (each_actor one_more me.0, keeps, tt, made (grind (arith, nat_tests, b)), confirm_told i (each_actor one_more me.0) (slice_index s.words i) true b (refl, empty))

  module _ (p f n : ℕ) (l : p < m.procs) (alone : me.0.actors ≡ Runs p f (suc n) ∷ []) where
    -- A load that is the next look of the processor keeps the rule.
    pub look_allows : (q i : ℕ) → me.0.mission ≡ Some mission → plan m p f (suc n) ≡ Some (Look (proc_id p) (proc_id q)) → Allows (Ruled m mission) slots id me i (λ n. n) (looks (step slots i 0 0 none) me)
    look_allows q i planned next = λ s r homes here small.
        let there : r.at.proc p ≡ At f (suc n) = stands m mission s id me.0 y r here p (At f (suc n)) alone in
        let go : IsNext m r.at (stored_in s.words) (Look (proc_id p) (proc_id q)) = rw (lt-ltb p m.procs l, there) next in (
          each_actor one_more me.0,
          keeps,
          tt,
          stepped_by m mission s id me.0 y r here p (At f (suc n)) alone (Look (proc_id p) (proc_id q)) (λ x. refl) refl refl i (slice_index s.words i) go (set_same s.words i) one_more refl,
          ((refl, empty), shown mission s id me.0 i r here planned),
        )

    module _ (s : State (Unit {0}) View) (r : Ruled m mission s) (here : get_elem? s.views id ≡ some me.0) (low : suc n ≤ m.procs + 1 + m.width) where
      mark_stands : stored_in s.words (MarkWord p) ≡ mark_before m p f
      mark_stands =
          r.kept.words_are (MarkWord p) l ∙ ap (λ (z : Place). mark_at m p z) (stands m mission s id me.0 y r here p (At f (suc n)) alone) ∙ unflipped m p f (suc n) low

      bank_stands : stored_in s.words (MarkWord p) % 2 ≡ side m p f
      bank_stands = side_of m p f (stored_in s.words (MarkWord p)) mark_stands

    -- A store of a bank word keeps the rule if it is the next step of the processor. Under the same condition, a load
    -- that may confirm the store keeps the rule.
    pub store_allows : (x i v : ℕ) → plan m p f (suc n) ≡ Some (Store (proc_id p) x) → suc n ≤ m.procs + 1 + m.width → i ≡ index_of (BankWord p (1 - side m p f) x) → v ≡ word_in (m.draft p f) x
        → Allows (Ruled m mission) slots id me i (λ z. v) (λ z. stores (step slots i v 0 none) me v)
    store_allows x i v next low place value = λ s r homes here small.
        let there : r.at.proc p ≡ At f (suc n) = stands m mission s id me.0 y r here p (At f (suc n)) alone in
        let go : IsNext m r.at (stored_in s.words) (Store (proc_id p) x) = rw (lt-ltb p m.procs l, there) next in (
          each_actor one_more me.0,
          keeps,
          tt,
          stepped_by m mission s id me.0 y r here p (At f (suc n)) alone (Store (proc_id p) x) (λ x. refl) refl refl i v go (rw (bank_stands s r here low, there, place, value) refl) one_more refl,
          (refl, empty),
        )

    pub confirm_store_allows : (x i v : ℕ) → me.0.mission ≡ Some mission → plan m p f (suc n) ≡ Some (Store (proc_id p) x) → suc n ≡ m.procs + 1 + x → x < m.width → i ≡ index_of (BankWord p (1 - side m p f) x) → v ≡ word_in (m.draft p f) x
        → Allows (Ruled m mission) slots id me i (λ n. n) (confirms (step slots i 0 0 none) me)
    confirm_store_allows x i v planned next steps low place value = λ s r homes here small.
        let there : r.at.proc p ≡ At f (suc n) = stands m mission s id me.0 y r here p (At f (suc n)) alone in
        let go : IsNext m r.at (stored_in s.words) (Store (proc_id p) x) = rw (lt-ltb p m.procs l, there) next in
        let left : suc n - (m.procs + 1) ≡ x = omega (arith, steps) in
        confirm_by (Runs p f (suc n)) v alone planned (ap (word_in (m.draft p f)) left ∙ sym value) i s r here
        (λ found. stepped_by m mission s id me.0 y r here p (At f (suc n)) alone (Store (proc_id p) x) (λ x. refl) refl refl i (slice_index s.words i) go
        (ap (slice_set s.words i) found ∙ rw (bank_stands s r here (omega (arith, steps, low)), there, place, value) refl) one_more refl)
        (nat_eq (slice_index s.words i) v) refl

    -- The store of the mark keeps the rule if it is the next step of the processor.
    pub flip_allows : (i v : ℕ) → plan m p f (suc n) ≡ Some (Flip (proc_id p)) → suc n ≤ m.procs + 1 + m.width → i ≡ index_of (MarkWord p) → v ≡ 2 * suc f + (1 - side m p f)
        → Allows (Ruled m mission) slots id me i (λ z. v) (λ z. stores (step slots i v 0 none) me v)
    flip_allows i v next low place value = λ s r homes here small.
        let there : r.at.proc p ≡ At f (suc n) = stands m mission s id me.0 y r here p (At f (suc n)) alone in
        let go : IsNext m r.at (stored_in s.words) (Flip (proc_id p)) = rw (lt-ltb p m.procs l, there) next in (
          each_actor one_more me.0,
          keeps,
          tt,
          stepped_by m mission s id me.0 y r here p (At f (suc n)) alone (Flip (proc_id p)) (λ x. refl) refl refl i v go (rw (bank_stands s r here low, there, place, value) refl) one_more refl,
          (refl, empty),
        )

    -- A store of the end word keeps the rule if it is the next step of the processor. The processor ends its frame or
    -- halts in it.
    pub done_allows : (i v : ℕ) → plan m p f (suc n) ≡ Some (Done (proc_id p)) → i ≡ index_of (EndWord p) → v ≡ 2 * suc f
        → Allows (Ruled m mission) slots id me i (λ z. v) (λ z. finishes_frame (step slots i v 0 none) me v)
    done_allows i v next place value = λ s r homes here small.
        let there : r.at.proc p ≡ At f (suc n) = stands m mission s id me.0 y r here p (At f (suc n)) alone in
        let go : IsNext m r.at (stored_in s.words) (Done (proc_id p)) = rw (lt-ltb p m.procs l, there) next in (
          each_actor next_frame me.0,
          keeps,
          tt,
          stepped_by m mission s id me.0 y r here p (At f (suc n)) alone (Done (proc_id p)) (λ x. refl) refl refl i v go (rw (there, place, value) refl) next_frame refl,
          (refl, empty),
        )

    pub halt_allows : (i v : ℕ) → plan m p f (suc n) ≡ Some (Halt (proc_id p)) → i ≡ index_of (EndWord p) → v ≡ 2 * f + 1
        → Allows (Ruled m mission) slots id me i (λ z. v) (λ z. halts (step slots i v 0 none) me v)
    halt_allows i v next place value = λ s r homes here small.
        let there : r.at.proc p ≡ At f (suc n) = stands m mission s id me.0 y r here p (At f (suc n)) alone in
        let go : IsNext m r.at (stored_in s.words) (Halt (proc_id p)) = rw (lt-ltb p m.procs l, there) next in (
          each_actor halted_actor me.0,
          keeps,
          tt,
          stepped_by m mission s id me.0 y r here p (At f (suc n)) alone (Halt (proc_id p)) (λ x. refl) refl refl i v go (rw (there, place, value) refl) halted_actor refl,
          (refl, empty),
        )

  -- A load of the release word by a processor that waits for a frame is a start or a try. The processor may have
  -- halted.
  module _ (p f : ℕ) (x : Place) (l : p < m.procs) (alone : me.0.actors ≡ actor_at p x ∷ []) (planned : me.0.mission ≡ Some mission)
      (next : (release : ℕ) → nat_lt f release ≡ true → next_from m p release x ≡ Some (Start (proc_id p))) (to : moved m (Start (proc_id p)) p x ≡ At f 1)
      (wait : awaited m (actor_at p x) ≡ f) (go : begun m (actor_at p x) ≡ Runs p f 1) (awaits : AwaitsRelease m 0 (actor_at p x ∷ [])) where
    start_told : (w : View) (n : ℕ) (b : Bool) → nat_lt f n ≡ b → MatchBool b (Has (w, me.1) (each_actor (begun m) me.0)) (Has (w, me.1) (tried me.0)) → starts (step slots 0 0 0 none) me n (w, me.1)
    start_told w n b is told =
        subst (λ (o : Option MissionParts). IfSome o (λ mission. IsAfterStart (mission_flight mission) 0 n me.0 (w, me.1))) (sym planned)
        (subst (λ (actors : List Actor). MovesIfWaiting (AwaitsRelease m 0 actors) (may_start m actors n) (begun m) me.0 (w, me.1)) (sym alone) ((λ waits. rw (wait, is) told), λ none. absurd (none awaits)))

    start_by : (s : State (Unit {0}) View) (r : Ruled m mission s) → get_elem? s.views id ≡ some me.0 → (b : Bool) → nat_lt f (slice_index s.words 0) ≡ b
        → (w : View) × (a : Act (Unit {0})) × Valid s.homes me.1 a × Ruled m mission (stepped s 0 (slice_index s.words 0) id me.1 w a) × starts (step slots 0 0 0 none) me (slice_index s.words 0) (w, carried_after me.1 a)
    start_by s r here false b =
        (tried me.0, keeps, tt, loaded m mission s id me.0 y r here (tried me.0) 0 refl refl, start_told (tried me.0) (slice_index s.words 0) false b (refl, empty))
    start_by s r here true b =
        let there : r.at.proc p ≡ x = stands m mission s id me.0 y r here p x alone in
        let is_next : IsNext m r.at (stored_in s.words) (Start (proc_id p)) = rw (lt-ltb p m.procs l, there) (next (slice_index s.words 0) b) in
        let is_go : begun m (actor_at p x) ≡ actor_at p (moved m (Start (proc_id p)) p x) = go ∙ sym (ap (actor_at p) to) in (
          each_actor (begun m) me.0,
          keeps,
          tt,
          stepped_by m mission s id me.0 y r here p x alone (Start (proc_id p)) (λ x. refl) refl refl 0 (slice_index s.words 0) is_next (set_same s.words 0) (begun m) is_go,
          start_told (each_actor (begun m) me.0) (slice_index s.words 0) true b (refl, empty),
        )

    start_any : Allows (Ruled m mission) slots id me 0 (λ n. n) (starts (step slots 0 0 0 none) me)
    start_any = λ s r homes here small. start_by s r here (nat_lt f (slice_index s.words 0)) refl

  back_allows : (p h : ℕ) (o : Option ℕ) → p < m.procs → me.0.actors ≡ Stopped p h ∷ [] → me.0.mission ≡ Some mission → m.restart p ≡ o → h < restart_or h o
      → Allows (Ruled m mission) slots id me 0 (λ n. n) (starts (step slots 0 0 0 none) me)
  back_allows p h None l alone planned is waits = absurd (omega arith)
  back_allows p h (Some g) l alone planned is waits =
      start_any p g (Halted h) l alone planned (λ release b. rw (is, lt-ltb h g waits, b) refl) (rw is refl) (rw is refl) (rw is refl) (refl, rw is waits)

  pub start_allows : (p : ℕ) (x : Place) → p < m.procs → me.0.actors ≡ actor_at p x ∷ [] → me.0.mission ≡ Some mission → Waits m p x
      → Allows (Ruled m mission) slots id me 0 (λ n. n) (starts (step slots 0 0 0 none) me)
  start_allows p (At f zero) l alone planned waits =
      start_any p f (At f 0) l alone planned (λ release b. rw (lt-ltb f m.frames waits.1, b) refl) refl refl refl (refl, waits)
  start_allows p (At f (suc n)) l alone planned waits = absurd (let none = waits.0 in omega (arith, none))
  start_allows p (Halted h) l alone planned waits = back_allows p h (m.restart p) l alone planned refl waits

  -- If the kernel loads the end word of the processor that it notes next, the load is a note or a try.
  module _ (k p : ℕ) (l : p < m.procs) (flown : k < m.frames) (alone : me.0.actors ≡ Kernel k p ∷ []) (planned : me.0.mission ≡ Some mission) where
    note_told : (i : ℕ) → i ≡ index_of (EndWord p) → (w : View) (n : ℕ) (b : Bool) → may_note m p k n ≡ b → MatchBool b (Has (w, me.1) (each_actor one_more me.0)) (Has (w, me.1) (tried me.0))
        → IfSome me.0.mission (λ mission. IsAfterNote (mission_flight mission) i n me.0 (w, me.1))
    note_told i place w n b is told =
        subst (λ (o : Option MissionParts). IfSome o (λ mission. IsAfterNote (mission_flight mission) i n me.0 (w, me.1))) (sym planned)
        (subst (λ (actors : List Actor). MovesIfWaiting (AwaitsEnd m i actors) (can_note m actors n) one_more me.0 (w, me.1)) (sym alone) ((λ waits. rw is told), λ none. absurd (none (flown, l, place))))

    note_by : (i : ℕ) (s : State (Unit {0}) View) (r : Ruled m mission s) → i ≡ index_of (EndWord p) → get_elem? s.views id ≡ some me.0 → (b : Bool) → may_note m p k (slice_index s.words i) ≡ b
        → (w : View) × (a : Act (Unit {0})) × Valid s.homes me.1 a × Ruled m mission (stepped s i (slice_index s.words i) id me.1 w a) × notes (step slots i 0 0 none) me (slice_index s.words i) (w, carried_after me.1 a)
    note_by i s r place here false b =
        (tried me.0, keeps, tt, loaded m mission s id me.0 y r here (tried me.0) i refl refl, (note_told i place (tried me.0) (slice_index s.words i) false b (refl, empty), shown mission s id me.0 i r here planned))
    note_by i s r place here true b =
        let there : (r.at.frame ≡ k) × (r.at.step ≡ p) = kernel_stands m mission s id me.0 y r here k p alone in
        let may : may_note m p k (stored_in s.words (EndWord p)) ≡ true = rw place at b in
        let go : IsNext m r.at (stored_in s.words) (KNote (proc_id p)) = rw (there.0, there.1, lt-ltb k m.frames flown, lt-ltb p m.procs l, may) refl in (
          each_actor one_more me.0,
          keeps,
          tt,
          kernel_by m mission s id me.0 y r here k p alone (KNote (proc_id p)) (λ x. refl) k (suc p) there.0 (ap (λ (z : ℕ). suc z) there.1) i (slice_index s.words i) go (set_same s.words i) one_more refl,
          (note_told i place (each_actor one_more me.0) (slice_index s.words i) true b (refl, empty), shown mission s id me.0 i r here planned),
        )

    pub note_allows : (i : ℕ) → i ≡ index_of (EndWord p) → Allows (Ruled m mission) slots id me i (λ n. n) (notes (step slots i 0 0 none) me)
    note_allows i place = λ s r homes here small. note_by i s r place here (may_note m p k (slice_index s.words i)) refl

  -- A store by the kernel keeps the rule if it is the kernel's next step.
  pub publish_allows : (k j x i v : ℕ) → x < 20 → suc k < m.frames → j ≡ m.procs + x → me.0.actors ≡ Kernel k j ∷ [] → i ≡ index_of (KernelWord x) → v ≡ word_in (m.kernel_image (suc k)) x
      → Allows (Ruled m mission) slots id me i (λ z. v) (λ z. stores (step slots i v 0 none) me v)
  publish_allows k j x i v low flown steps alone place value = λ s r homes here small.
      let there : (r.at.frame ≡ k) × (r.at.step ≡ j) = kernel_stands m mission s id me.0 y r here k j alone in
      let left : j - m.procs ≡ x = omega arith in
      let go : IsNext m r.at (stored_in s.words) (KStore x) = rw (there.0, there.1, lt-ltb k m.frames (omega arith), le-ltb j m.procs (omega arith), lt-ltb (suc k) m.frames flown, lt-ltb j (m.procs + 20) (omega arith), left) refl in
      let put : slice_set s.words i v ≡ list_after s.words (writes m r.at (stored_in s.words) (KStore x)) =
      ap (λ n. slice_set s.words n v) place ∙ ap (slice_set s.words (index_of (KernelWord x))) (value ∙ ap (λ f. word_in (m.kernel_image (suc f)) x) (sym there.0)) in (
        each_actor one_more me.0,
        keeps,
        tt,
        kernel_by m mission s id me.0 y r here k j alone (KStore x) (λ x. refl) k (suc j) there.0 (ap (λ (z : ℕ). suc z) there.1) i v go put one_more refl,
        (refl, empty),
      )

  pub confirm_publish_allows : (k j x i v : ℕ) → me.0.mission ≡ Some mission → x < 20 → suc k < m.frames → j ≡ m.procs + x → me.0.actors ≡ Kernel k j ∷ [] → i ≡ index_of (KernelWord x) → v ≡ word_in (m.kernel_image (suc k)) x
      → Allows (Ruled m mission) slots id me i (λ n. n) (confirms (step slots i 0 0 none) me)
  confirm_publish_allows k j x i v planned low flown steps alone place value = λ s r homes here small.
      let there : (r.at.frame ≡ k) × (r.at.step ≡ j) = kernel_stands m mission s id me.0 y r here k j alone in
      let left : j - m.procs ≡ x = omega arith in
      let go : IsNext m r.at (stored_in s.words) (KStore x) = rw (there.0, there.1, lt-ltb k m.frames (omega arith), le-ltb j m.procs (omega arith), lt-ltb (suc k) m.frames flown, lt-ltb j (m.procs + 20) (omega arith), left) refl in
      let put : slice_set s.words i v ≡ list_after s.words (writes m r.at (stored_in s.words) (KStore x)) =
      ap (λ n. slice_set s.words n v) place ∙ ap (slice_set s.words (index_of (KernelWord x))) (value ∙ ap (λ f. word_in (m.kernel_image (suc f)) x) (sym there.0)) in
      confirm_by (Kernel k j) v alone planned (ap (word_in (m.kernel_image (suc k))) left ∙ sym value) i s r here
      (λ found. kernel_by m mission s id me.0 y r here k j alone (KStore x) (λ x. refl) k (suc j) there.0 (ap (λ (z : ℕ). suc z) there.1) i (slice_index s.words i) go (ap (slice_set s.words i) found ∙ put) one_more refl)
      (nat_eq (slice_index s.words i) v) refl

  pub release_allows : (k j i v : ℕ) → suc k < m.frames → j ≡ m.procs + 20 → me.0.actors ≡ Kernel k j ∷ [] → i ≡ 0 → v ≡ suc (suc k)
      → Allows (Ruled m mission) slots id me i (λ z. v) (λ z. finishes_frame (step slots i v 0 none) me v)
  release_allows k j i v flown steps alone place value = λ s r homes here small.
      let there : (r.at.frame ≡ k) × (r.at.step ≡ j) = kernel_stands m mission s id me.0 y r here k j alone in
      let go : IsNext m r.at (stored_in s.words) Release = rw (there.0, there.1, lt-ltb k m.frames (omega arith), le-ltb j m.procs (omega arith), lt-ltb (suc k) m.frames flown, le-ltb j (m.procs + 20) (omega arith), eq-eqb j (m.procs + 20) steps) refl in (
        each_actor next_frame me.0,
        keeps,
        tt,
        kernel_by m mission s id me.0 y r here k j alone Release (λ x. refl) (suc k) 0 (ap (λ (z : ℕ). suc z) there.0) refl i v go (rw (there.0, place, value) refl) next_frame refl,
        (refl, empty),
      )
