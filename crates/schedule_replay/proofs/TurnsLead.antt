-- The turn of a processor takes the processor from the beginning of a frame to the end of the frame.
use Rattle.std.proofs.lemmas.Bool.{lt-ltb}
use Rattle.std.proofs.Common.{◌≡◌, ◌≢◌, ◌∙◌, ℕ, zero, suc, ◌+◌, ◌-◌, ◌<◌, ◌≤◌, Bool, true, false, refl, ap, subst, arith, List, [], ◌∷◌, ◌++◌}
use Rattle.std.specs.Prelude.{Option, Some, None, nat_eq, nat_lt, if◌then◌else◌}
use Rattle.std.proofs.lemmas.Bool.Decides.{nat_tests}
use Rattle.scram_types.specs.Lookups.{proc_id}
use Rattle.scram_types.specs.Searches.{listed_below}
use Rattle.bank_words.specs.declared.events.Event.{Event}
use Rattle.bank_words.specs.declared.events.Event.TheVariants.{Start, Look, Store, Flip, Done, Halt}
use Rattle.fail_stop.specs.Events.{At, Halted, IsNext, Place, Places, ReleaseWord, Word, frame_after, halts_at, is_actor, moved, next_from, next_of, next_of_actor, plan, plan_step, step_after}
use Rattle.fail_stop.specs.Flights.{Flies, Flight, stores_by}
use Rattle.fail_stop.specs.Kept.{Kept}
use Rattle.fail_stop.specs.Schedules.{IsSchedule, Machine, happened}
use Rattle.fail_stop.proofs.EachState.{happens_so}
use Rattle.fail_stop.proofs.Keeps.{keeps}
use Rattle.fail_stop.proofs.Moves.{nat_eq_self}
use Rattle.schedule_replay.specs.Turns.{ending, steps_by}

other_false : (a b : ℕ) → a ≢ b → nat_eq a b ≡ false
other_false a b h = grind (arith, nat_tests, h)

-- The event `e` is an event of processor `p`. It moves neither the kernel nor any other processor.
record IsOf (p : ℕ) (e : Event) : Type 0 where
  actor : (q : ℕ) → is_actor e q ≡ nat_eq q p
  asks : (m : Flight) (at : Places) (words : Word → ℕ) → next_of_actor m at words e ≡ next_of m at words p
  frame : (at : Places) → frame_after at e ≡ at.frame
  step : (at : Places) → step_after at e ≡ at.step

start_of : (p : ℕ) → IsOf p (Start (proc_id p))
start_of p = record { actor = λ q. refl; asks = λ m at words. refl; frame = λ at. refl; step = λ at. refl }

look_of : (p q : ℕ) → IsOf p (Look (proc_id p) (proc_id q))
look_of p q = record { actor = λ q. refl; asks = λ m at words. refl; frame = λ at. refl; step = λ at. refl }

store_of : (p i : ℕ) → IsOf p (Store (proc_id p) i)
store_of p i = record { actor = λ q. refl; asks = λ m at words. refl; frame = λ at. refl; step = λ at. refl }

flip_of : (p : ℕ) → IsOf p (Flip (proc_id p))
flip_of p = record { actor = λ q. refl; asks = λ m at words. refl; frame = λ at. refl; step = λ at. refl }

done_of : (p : ℕ) → IsOf p (Done (proc_id p))
done_of p = record { actor = λ q. refl; asks = λ m at words. refl; frame = λ at. refl; step = λ at. refl }

halt_of : (p : ℕ) → IsOf p (Halt (proc_id p))
halt_of p = record { actor = λ q. refl; asks = λ m at words. refl; frame = λ at. refl; step = λ at. refl }

pub joined : (m : Flight) (s : Machine) (es : List Event) (t : Machine) (fs : List Event) (u : Machine) → IsSchedule m s es t → IsSchedule m t fs u → IsSchedule m s (es ++ fs) u
joined m s [] t fs u i j = subst (λ (x : Machine). IsSchedule m x fs u) i j
joined m s (e ∷ es) t fs u i j = (i.0, joined m (happened m s e) es t fs u i.1 j)

pub kept_after : (m : Flight) (s : Machine) (e : Event) → Flies m → Kept m s.at s.words → IsNext m s.at s.words e → Kept m (happened m s e).at (happened m s e).words
kept_after m s e y kept next = keeps m s.at s.words (happened m s e).at (happened m s e).words y kept e next (happens_so m s e)

-- State `t` satisfies the invariant `Kept`. In `t`, processor `p` is at `place`, and all other actors are at the same
-- places as in state `s`.
pub record Came (m : Flight) (p : ℕ) (s t : Machine) (place : Place) : Type 0 where
  pub kept : Kept m t.at t.words
  pub frame : t.at.frame ≡ s.at.frame
  pub step : t.at.step ≡ s.at.step
  pub here : t.at.proc p ≡ place
  pub others : (q : ℕ) → q ≢ p → t.at.proc q ≡ s.at.proc q

pub record Leads (m : Flight) (s : Machine) (es : List Event) (p : ℕ) (place : Place) : Type 0 where
  pub state : Machine
  pub schedule : IsSchedule m s es state
  pub came : Came m p s state place

-- The place of a processor after its last step of frame `f`. The last argument is the step of the processor's halt in
-- the frame, or `None` if the processor does not halt there. Without a halt, the place is the beginning of the next
-- frame. With a halt, it is `Halted f`.
abbrev pub ended_at : ℕ → Option ℕ → Place
ended_at f None = At (suc f) 0
ended_at f (Some s) = Halted f

module _ (m : Flight) (y : Flies m) (p : ℕ) (low : p < m.procs) where
  nowhere : (s : Machine) (place : Place) → Kept m s.at s.words → s.at.proc p ≡ place → Leads m s [] p place
  nowhere s place kept here = record { state = s; schedule = refl; came = record { kept = kept; frame = refl; step = refl; here = here; others = λ q apart. refl } }

  onward : (s : Machine) (es : List Event) (a : Place) (fs : List Event) (b : Place) → (l : Leads m s es p a) → Leads m l.state fs p b → Leads m s (es ++ fs) p b
  onward s es a fs b l k = record {
    state = k.state;
    schedule = joined m s es l.state fs k.state l.schedule k.schedule;
    came = record {
      kept = k.came.kept;
      frame = k.came.frame ∙ l.came.frame;
      step = k.came.step ∙ l.came.step;
      here = k.came.here;
      others = λ q apart. k.came.others q apart ∙ l.came.others q apart;
    };
  }

  one : (s : Machine) (e : Event) (place : Place) → Kept m s.at s.words → IsOf p e → next_of m s.at s.words p ≡ Some e → moved m e p (s.at.proc p) ≡ place → Leads m s (e ∷ []) p place
  one s e place kept is next goes =
      let i : IsNext m s.at s.words e = is.asks m s.at s.words ∙ next in
      record {
        state = happened m s e;
        schedule = (i, refl);
        came = record {
          kept = kept_after m s e y kept i;
          frame = is.frame s.at;
          step = is.step s.at;
          here = rw (is.actor p, nat_eq_self p) goes;
          others = λ q apart. rw (is.actor q, other_false q p apart) refl;
        };
      }

  asked : (s : Machine) (place : Place) → s.at.proc p ≡ place → next_of m s.at s.words p ≡ next_from m p (s.words ReleaseWord) place
  asked s place here = rw (lt-ltb p m.procs low, here) refl

  -- The next `count` events of a processor, all of one kind, lead the processor from step `suc n` of frame `f` to
  -- step `suc (n + count)`.
  many : (f n : ℕ) (value : ℕ → Event) (count : ℕ) (s : Machine) → Kept m s.at s.words → s.at.proc p ≡ At f (suc n) → ((k : ℕ) → IsOf p (value k))
      → ((k : ℕ) → k < count → plan m p f (suc (n + k)) ≡ Some (value k)) → ((k g j : ℕ) → moved m (value k) p (At g j) ≡ At g (suc j))
      → Leads m s (listed_below value count) p (At f (suc (n + count)))
  many f n value zero s kept here is plans goes = nowhere s (At f (suc (n + 0))) kept (here ∙ ap (λ (k : ℕ). At f (suc k)) (omega arith))
  many f n value (suc c) s kept here is plans goes =
      let l = many f n value c s kept here is (λ k below. plans k (omega (arith, below))) goes in
      let more : suc (n + c) ≡ n + suc c = omega arith in
      onward s (listed_below value c) (At f (suc (n + c))) (value c ∷ []) (At f (suc (n + suc c))) l
      (one l.state (value c) (At f (suc (n + suc c))) l.came.kept (is c) (asked l.state (At f (suc (n + c))) l.came.here ∙ plans c (omega arith))
      (ap (moved m (value c) p) l.came.here ∙ goes c f (suc (n + c)) ∙ ap (λ (k : ℕ). At f (suc k)) more))

  uncut : (n : ℕ) (o : Option ℕ) → ((s : ℕ) → o ≡ Some s → n ≢ m.procs + 1 + s) → halts_at m n o ≡ false
  uncut n None never = refl
  uncut n (Some s) never = other_false n (m.procs + 1 + s) (never s refl)

  as_planned : (f n : ℕ) (e : Event) → ((s : ℕ) → m.halt p f ≡ Some s → n ≢ m.procs + 1 + s) → plan_step m p n ≡ Some e → plan m p f n ≡ Some e
  as_planned f n e never step = ap (λ (b : Bool). if b then Some (Halt (proc_id p)) else plan_step m p n) (uncut n (m.halt p f) never) ∙ step

  look_step : (q : ℕ) → q < m.procs → plan_step m p (suc q) ≡ Some (Look (proc_id p) (proc_id q))
  look_step q below = grind (arith, nat_tests)

  store_step : (i n : ℕ) → n ≡ m.procs + 1 + i → i < m.width → plan_step m p n ≡ Some (Store (proc_id p) i)
  store_step i n is below = let index : n - (m.procs + 1) ≡ i = omega (arith, is) in
      let e : plan_step m p n ≡ Some (Store (proc_id p) (n - (m.procs + 1))) = grind (arith, nat_tests, is) in
      e ∙ ap (λ (k : ℕ). Some (Store (proc_id p) k)) index

  flip_step : (n : ℕ) → n ≡ m.procs + 1 + m.width → plan_step m p n ≡ Some (Flip (proc_id p))
  flip_step n is = grind (arith, nat_tests, is)

  done_step : (n : ℕ) → n ≡ m.procs + 2 + m.width → plan_step m p n ≡ Some (Done (proc_id p))
  done_step n is = grind (arith, nat_tests, is)

  halts : (f n s : ℕ) → m.halt p f ≡ Some s → n ≡ m.procs + 1 + s → plan m p f n ≡ Some (Halt (proc_id p))
  halts f n s is at = let here : nat_eq n (m.procs + 1 + s) ≡ true = grind (arith, nat_tests, at) in
      ap (λ (o : Option ℕ). if halts_at m n o then Some (Halt (proc_id p)) else plan_step m p n) is ∙ ap (λ (b : Bool). if b then Some (Halt (proc_id p)) else plan_step m p n) here

  looks : (f : ℕ) (s : Machine) → Kept m s.at s.words → s.at.proc p ≡ At f 1 → Leads m s (listed_below (λ (q : ℕ). Look (proc_id p) (proc_id q)) m.procs) p (At f (suc (0 + m.procs)))
  looks f s kept here = many f 0 (λ (q : ℕ). Look (proc_id p) (proc_id q)) m.procs s kept here (look_of p)
      (λ q below. let none : 0 + q ≡ q = omega arith in
      rw none (as_planned f (suc q) (Look (proc_id p) (proc_id q)) (λ st is bad. omega (arith, bad, below)) (look_step q below))) (λ k g j. refl)

  stores_few : (o : Option ℕ) → stores_by m.width o ≤ m.width
  stores_few None = omega arith
  stores_few (Some s) = grind arith

  stores_before : (o : Option ℕ) (s : ℕ) → o ≡ Some s → stores_by m.width o ≤ s
  stores_before None s is = cc
  stores_before (Some t) s is = let same : t ≡ s = cc in rw same (grind arith)

  stores : (f : ℕ) (s : Machine) → Kept m s.at s.words → s.at.proc p ≡ At f (suc m.procs)
      → Leads m s (listed_below (λ (i : ℕ). Store (proc_id p) i) (stores_by m.width (m.halt p f))) p (At f (suc (m.procs + stores_by m.width (m.halt p f))))
  stores f s kept here = many f m.procs (λ (i : ℕ). Store (proc_id p) i) (stores_by m.width (m.halt p f)) s kept here (store_of p)
      (λ i below. let few = stores_few (m.halt p f) in
      as_planned f (suc (m.procs + i)) (Store (proc_id p) i) (λ st is bad. let before = stores_before (m.halt p f) st is in omega (arith, bad, below, before)) (store_step i (suc (m.procs + i)) (omega arith) (omega (arith, below, few))))
      (λ k g j. refl)

  -- An event of a frame that has begun leads to the processor's next place.
  by_plan : (s : Machine) (f n : ℕ) (e : Event) (place : Place) → Kept m s.at s.words → s.at.proc p ≡ At f (suc n) → IsOf p e → plan m p f (suc n) ≡ Some e → moved m e p (At f (suc n)) ≡ place → Leads m s (e ∷ []) p place
  by_plan s f n e place kept here is next goes = one s e place kept is (asked s (At f (suc n)) here ∙ next) (ap (moved m e p) here ∙ goes)

  flips : (s : Machine) (f n : ℕ) → n ≡ m.procs + m.width → ((st : ℕ) → m.halt p f ≡ Some st → m.width < st) → Kept m s.at s.words → s.at.proc p ≡ At f (suc n) → Leads m s (Flip (proc_id p) ∷ []) p (At f (suc (suc n)))
  flips s f n is late kept here = by_plan s f n (Flip (proc_id p)) (At f (suc (suc n))) kept here (flip_of p)
      (as_planned f (suc n) (Flip (proc_id p)) (λ st halt bad. let after = late st halt in omega (arith, bad, after, is)) (flip_step (suc n) (omega (arith, is)))) refl

  ends_done : (s : Machine) (f : ℕ) → m.halt p f ≡ None → Kept m s.at s.words → s.at.proc p ≡ At f (suc (m.procs + m.width)) → Leads m s (Flip (proc_id p) ∷ Done (proc_id p) ∷ []) p (At (suc f) 0)
  ends_done s f none kept here =
      let l = flips s f (m.procs + m.width) refl (λ st is. absurd (let e = none in cc)) kept here in
      onward s (Flip (proc_id p) ∷ []) (At f (suc (suc (m.procs + m.width)))) (Done (proc_id p) ∷ []) (At (suc f) 0) l
      (by_plan l.state f (suc (m.procs + m.width)) (Done (proc_id p)) (At (suc f) 0) l.came.kept l.came.here (done_of p)
      (as_planned f (suc (suc (m.procs + m.width))) (Done (proc_id p)) (λ st is bad. absurd (let e = none in cc)) (done_step (suc (suc (m.procs + m.width))) (omega arith))) refl)

  ends_late : (s : Machine) (f st : ℕ) → m.halt p f ≡ Some st → m.width < st → Kept m s.at s.words → s.at.proc p ≡ At f (suc (m.procs + m.width)) → Leads m s (Flip (proc_id p) ∷ Halt (proc_id p) ∷ []) p (Halted f)
  ends_late s f st is late kept here =
      let few = y.step p f st is in
      let l = flips s f (m.procs + m.width) refl (λ other halt. let same : st ≡ other = cc in omega (arith, same, late)) kept here in
      onward s (Flip (proc_id p) ∷ []) (At f (suc (suc (m.procs + m.width)))) (Halt (proc_id p) ∷ []) (Halted f) l
      (by_plan l.state f (suc (m.procs + m.width)) (Halt (proc_id p)) (Halted f) l.came.kept l.came.here (halt_of p) (halts f (suc (suc (m.procs + m.width))) st is (omega (arith, few, late))) refl)

  ends_early : (s : Machine) (f st : ℕ) → m.halt p f ≡ Some st → Kept m s.at s.words → s.at.proc p ≡ At f (suc (m.procs + st)) → Leads m s (Halt (proc_id p) ∷ []) p (Halted f)
  ends_early s f st is kept here = by_plan s f (m.procs + st) (Halt (proc_id p)) (Halted f) kept here (halt_of p) (halts f (suc (m.procs + st)) st is (omega arith)) refl

  ends_by : (s : Machine) (f st : ℕ) (b : Bool) → nat_lt m.width st ≡ b → m.halt p f ≡ Some st → Kept m s.at s.words → s.at.proc p ≡ At f (suc (m.procs + stores_by m.width (Some st)))
      → Leads m s (if b then Flip (proc_id p) ∷ Halt (proc_id p) ∷ [] else Halt (proc_id p) ∷ []) p (Halted f)
  ends_by s f st true is halt kept here =
      let late : m.width < st = grind (arith, nat_tests, is) in
      let all : stores_by m.width (Some st) ≡ m.width = grind (arith, late) in
      ends_late s f st halt late kept (here ∙ ap (λ (k : ℕ). At f (suc (m.procs + k))) all)
  ends_by s f st false is halt kept here =
      let early : st ≤ m.width = grind (arith, nat_tests, is) in
      let some : stores_by m.width (Some st) ≡ st = grind (arith, early) in
      ends_early s f st halt kept (here ∙ ap (λ (k : ℕ). At f (suc (m.procs + k))) some)

  ends : (s : Machine) (f : ℕ) (o : Option ℕ) → m.halt p f ≡ o → Kept m s.at s.words → s.at.proc p ≡ At f (suc (m.procs + stores_by m.width o)) → Leads m s (ending m p o) p (ended_at f o)
  ends s f None is kept here = ends_done s f is kept here
  ends s f (Some st) is kept here = ends_by s f st (nat_lt m.width st) refl is kept here

  -- The steps of a frame, including the start, lead a processor to the end of the frame.
  pub steps_lead : (s : Machine) (f : ℕ) → Kept m s.at s.words → next_of m s.at s.words p ≡ Some (Start (proc_id p)) → moved m (Start (proc_id p)) p (s.at.proc p) ≡ At f 1
      → Leads m s (steps_by m p (m.halt p f)) p (ended_at f (m.halt p f))
  steps_lead s f kept next goes =
      let a = one s (Start (proc_id p)) (At f 1) kept (start_of p) next goes in
      let b = looks f a.state a.came.kept a.came.here in
      let none : suc (0 + m.procs) ≡ suc m.procs = omega arith in
      let c = stores f b.state b.came.kept (b.came.here ∙ ap (At f) none) in
      let d = ends c.state f (m.halt p f) refl c.came.kept c.came.here in
      let of_looks = listed_below (λ (q : ℕ). Look (proc_id p) (proc_id q)) m.procs in
      let of_stores = listed_below (λ (i : ℕ). Store (proc_id p) i) (stores_by m.width (m.halt p f)) in
      onward s (Start (proc_id p) ∷ []) (At f 1) (of_looks ++ (of_stores ++ ending m p (m.halt p f))) (ended_at f (m.halt p f)) a
      (onward a.state of_looks (At f (suc (0 + m.procs))) (of_stores ++ ending m p (m.halt p f)) (ended_at f (m.halt p f)) b
      (onward b.state of_stores (At f (suc (m.procs + stores_by m.width (m.halt p f)))) (ending m p (m.halt p f)) (ended_at f (m.halt p f)) c d))
