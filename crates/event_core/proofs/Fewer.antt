-- Each event that is the next of its actor reduces the number of events left.
use Rattle.std.proofs.Common.{◌≡◌, ◌≢◌, ◌⊎◌, ◌∙◌, ℕ, zero, suc, ◌+◌, ◌-◌, ◌*◌, ◌<◌, ◌≤◌, false, ◌&&◌, refl, ap, subst, inl, inr, arith, List, [], ◌∷◌}
use Rattle.std.specs.Prelude.{Some, nat_lt, nat_eq}
use Rattle.std.proofs.lemmas.Bool.Decides.{nat_tests}
use native.Mathlib.Decide.{dec_le}
use Rattle.scram_types.specs.Lookups.{proc_id}
use Rattle.bank_words.specs.declared.events.Event.{Event}
use Rattle.bank_words.specs.declared.events.Event.TheVariants.{Start, Look, Store, Flip, Done, Halt, KNote, KStore, Release}
use Rattle.fail_stop.specs.Events.{At, Halted, IsNext, Places, ReleaseWord, Word, frame_after, halts_at, is_actor, moved, next_from, next_of, proc_after, started, step_after}
use Rattle.fail_stop.specs.Listed.{Moves}
use Rattle.fail_stop.specs.Flights.{Flies, Flight}
use Rattle.fail_stop.specs.Kept.{Kept, Running, opening_places, opening_words}
use Rattle.fail_stop.specs.Schedules.{IsSchedule, Machine, opening}
use Rattle.fail_stop.proofs.Plans.{Begin, HaltsHere, Mid, begin, both_less, gate, halts_here, is_less, mid, next_kstore, next_note, next_release, plan_done, plan_flip, plan_halt, plan_look, plan_store}
use Rattle.fail_stop.proofs.Moves.{nat_eq_self}
use Rattle.event_core.specs.Rooms.{events_a_frame, events_left, left_at, left_below, left_of_kernel}

-- If `f < frames`, then `(frames - f) * c` equals `c + (frames - suc f) * c`.
pub frame_less : (frames f c : ℕ) → f < frames → (frames - f) * c ≡ c + (frames - suc f) * c
frame_less frames f c low = let e : frames - f ≡ 1 + (frames - suc f) = omega arith in rw e (grind arith)

times_le : (a b c : ℕ) → a ≤ b → a * c ≤ b * c
times_le zero b c le = omega arith
times_le (suc a) zero c le = absurd (omega arith)
times_le (suc a) (suc b) c le = let less = times_le a b c (omega arith) in grind (arith, less)

-- If the number of events left decreases for processor `p` and stays the same for all others, then the sum decreases.
pub sum_less : (m : Flight) (at at2 : Places) (p n : ℕ) → p < n → left_at m (at2.proc p) < left_at m (at.proc p)
    → ((q : ℕ) → q ≢ p → left_at m (at2.proc q) ≡ left_at m (at.proc q)) → left_below m at2 n < left_below m at n
sum_less m at at2 p zero low less same = absurd (omega arith)
sum_less m at at2 p (suc n) low less same = elim (ends p n low) [
  | inl last ↦
      let front = sum_same n (λ q below. same q (λ e. absurd (omega (arith, below, last, e)))) in
      let here : left_at m (at2.proc n) < left_at m (at.proc n) = subst (λ k. left_at m (at2.proc k) < left_at m (at.proc k)) last less in
      omega (arith, front, here)
  | inr below ↦
      let front = sum_less m at at2 p n below less same in
      let here = same n (λ e. absurd (omega (arith, below, e))) in
      omega (arith, front, here)
] where
  ends : (p n : ℕ) → p < suc n → (p ≡ n) ⊎ (p < n)
  ends p n low = grind arith

  sum_same : (k : ℕ) → ((q : ℕ) → q < k → left_at m (at2.proc q) ≡ left_at m (at.proc q)) → left_below m at2 k ≡ left_below m at k
  sum_same zero all = refl
  sum_same (suc k) all = let front = sum_same k (λ q below. all q (omega arith)) in let here = all k (omega arith) in omega (arith, front, here)

-- If a processor has a next event at the opening, then the flight has at least one frame.
begun_flies : (m : Flight) (words : Word → ℕ) (p : ℕ) (e : Event) → next_of m opening_places words p ≡ Some e → 0 < m.frames
begun_flies m words p e i =
    let a = (gate (nat_lt p m.procs) (next_from m p (words ReleaseWord) (At 0 0)) e i).1 in
    (both_less 0 m.frames 0 (words ReleaseWord) (gate (nat_lt 0 m.frames && nat_lt 0 (words ReleaseWord)) (Some (Start (proc_id p))) e a).0).0

pub first_flies : (m : Flight) (words : Word → ℕ) (e : Event) → IsNext m opening_places words e → 0 < m.frames
first_flies m words (Start p) i = begun_flies m words p.0 (Start p) i
first_flies m words (Look p q) i = begun_flies m words p.0 (Look p q) i
first_flies m words (Store p x) i = begun_flies m words p.0 (Store p x) i
first_flies m words (Flip p) i = begun_flies m words p.0 (Flip p) i
first_flies m words (Done p) i = begun_flies m words p.0 (Done p) i
first_flies m words (Halt p) i = begun_flies m words p.0 (Halt p) i
first_flies m words (KNote p) i = is_less 0 m.frames (gate (nat_lt 0 m.frames) _ (KNote p) i).0
first_flies m words (KStore x) i = is_less 0 m.frames (gate (nat_lt 0 m.frames) _ (KStore x) i).0
first_flies m words Release i = is_less 0 m.frames (gate (nat_lt 0 m.frames) _ Release i).0

-- If some actor has a next event after a schedule, then the flight has at least one frame.
pub has_frames : (m : Flight) (es : List Event) (t : Machine) (e : Event) → IsSchedule m (opening m) es t → IsNext m t.at t.words e → 0 < m.frames
has_frames m [] t e is next = first_flies m (opening_words m) e (subst (λ (s : Machine). IsNext m s.at s.words e) is next)
has_frames m (x ∷ es) t e is next = first_flies m (opening_words m) x is.0

module _ (m : Flight) where
  -- A step within frame `f` reduces the number of events left for the processor that makes the step.
  step_less : (f n : ℕ) → f < m.frames → n + 1 < events_a_frame m → left_at m (At f (suc n)) < left_at m (At f n)
  step_less f n low within = let e = frame_less m.frames f (events_a_frame m) low in omega (arith, e)

  done_less : (f n : ℕ) → f < m.frames → n < events_a_frame m → left_at m (At (suc f) 0) < left_at m (At f n)
  done_less f n low within = let e = frame_less m.frames f (events_a_frame m) low in omega (arith, e)

  halt_less : (f n : ℕ) → f < m.frames → n < events_a_frame m → left_at m (Halted f) < left_at m (At f n)
  halt_less f n low within = let e = frame_less m.frames f (events_a_frame m) low in omega (arith, e)

  back_less : (h r : ℕ) → h < r → r < m.frames → left_at m (At r 1) < left_at m (Halted h)
  back_less h r after low =
      let e = frame_less m.frames r (events_a_frame m) low in
      let most = times_le (m.frames - r) (m.frames - suc h) (events_a_frame m) (omega arith) in
      omega (arith, e, most)

actor_is : (p x : ℕ) → nat_eq p x ≡ nat_eq p p → p ≡ x
actor_is p x is = grind (arith, nat_tests)

no_actor : (p : ℕ) → false ≡ nat_eq p p → ⊥
no_actor p is = grind (arith, nat_tests)

module _ (m : Flight) (at : Places) (words : Word → ℕ) (y : Flies m) (k : Kept m at words) (restarts : (p r : ℕ) → m.restart p ≡ Some r → r < m.frames) (flies : 0 < m.frames) where
  acting : (p : ℕ) (e : Event) → next_of m at words p ≡ Some e → (p < m.procs) × (next_from m p (words ReleaseWord) (at.proc p) ≡ Some e)
  acting p e i = let g = gate (nat_lt p m.procs) (next_from m p (words ReleaseWord) (at.proc p)) e i in (is_less p m.procs g.0, g.1)

  -- If a processor has made a step in frame `f`, then `f` is a frame of the flight.
  pub begun_low : (p f n : ℕ) → p < m.procs → at.proc p ≡ At f n → 0 < n → f < m.frames
  begun_low p f n l here begun = let r : Running m at.frame at.step p f n = rw here at (k.placed p l) in by_frame r (dec_le f at.frame)
    where
      by_frame : Running m at.frame at.step p f n → Dec (f ≤ at.frame) → f < m.frames
      by_frame r (yes d) = let b = k.kernel.below flies in omega (arith, d, b)
      by_frame r (no d) = let z : n ≡ 0 = r.fresh (omega (arith, d)) in absurd (omega (arith, z, begun))

  started_less : (p : ℕ) → (b : Begin m p (words ReleaseWord) (at.proc p)) → left_at m (started (m.restart p) (at.proc p)) < left_at m (at.proc p)
  started_less p b = elim b.where_ [
    | inl h ↦ rw h.0 (step_less m b.f 0 h.1 (omega arith))
    | inr h ↦ rw (h.1, h.2) (back_less m h.0 b.f h.3 (restarts p b.f h.2))
  ]

  pub proc_less : (e : Event) (p : ℕ) → ((q : ℕ) → is_actor e q ≡ nat_eq q p) → IsNext m at words e → (p < m.procs) × (left_at m (moved m e p (at.proc p)) < left_at m (at.proc p))
  proc_less (Start x) p is i =
      let same : p ≡ x.0 = actor_is p x.0 (is p) in
      let a = acting x.0 (Start x) i in
      rw same (a.0, started_less x.0 (begin m x.0 (words ReleaseWord) (at.proc x.0) a.1))
  proc_less (Look x q) p is i =
      let same : p ≡ x.0 = actor_is p x.0 (is p) in
      let a = acting x.0 (Look x q) i in
      let b : Mid m x.0 (at.proc x.0) (Look x q) = mid m x.0 (words ReleaseWord) (at.proc x.0) (Look x q) a.1 (λ e. cc) in
      let c = plan_look m x.0 b.n q.0 (halts_at m b.n (m.halt x.0 b.f)) b.next in
      rw same (a.0, rw b.here (step_less m b.f b.n (begun_low x.0 b.f b.n a.0 b.here b.begun) (omega (arith, c.1))))
  proc_less (Store x w) p is i =
      let same : p ≡ x.0 = actor_is p x.0 (is p) in
      let a = acting x.0 (Store x w) i in
      let b : Mid m x.0 (at.proc x.0) (Store x w) = mid m x.0 (words ReleaseWord) (at.proc x.0) (Store x w) a.1 (λ e. cc) in
      let c = plan_store m x.0 b.n w (halts_at m b.n (m.halt x.0 b.f)) b.next in
      rw same (a.0, rw b.here (step_less m b.f b.n (begun_low x.0 b.f b.n a.0 b.here b.begun) (omega (arith, c.1, c.2))))
  proc_less (Flip x) p is i =
      let same : p ≡ x.0 = actor_is p x.0 (is p) in
      let a = acting x.0 (Flip x) i in
      let b : Mid m x.0 (at.proc x.0) (Flip x) = mid m x.0 (words ReleaseWord) (at.proc x.0) (Flip x) a.1 (λ e. cc) in
      let c = plan_flip m x.0 b.n (halts_at m b.n (m.halt x.0 b.f)) b.next in
      rw same (a.0, rw b.here (step_less m b.f b.n (begun_low x.0 b.f b.n a.0 b.here b.begun) (omega (arith, c.1))))
  proc_less (Done x) p is i =
      let same : p ≡ x.0 = actor_is p x.0 (is p) in
      let a = acting x.0 (Done x) i in
      let b : Mid m x.0 (at.proc x.0) (Done x) = mid m x.0 (words ReleaseWord) (at.proc x.0) (Done x) a.1 (λ e. cc) in
      let c = plan_done m x.0 b.n (halts_at m b.n (m.halt x.0 b.f)) b.next in
      rw same (a.0, rw b.here (done_less m b.f b.n (begun_low x.0 b.f b.n a.0 b.here b.begun) (omega (arith, c.1))))
  proc_less (Halt x) p is i =
      let same : p ≡ x.0 = actor_is p x.0 (is p) in
      let a = acting x.0 (Halt x) i in
      let b : Mid m x.0 (at.proc x.0) (Halt x) = mid m x.0 (words ReleaseWord) (at.proc x.0) (Halt x) a.1 (λ e. cc) in
      let c : HaltsHere m b.n (m.halt x.0 b.f) = halts_here m b.n (m.halt x.0 b.f) (plan_halt m x.0 b.n (halts_at m b.n (m.halt x.0 b.f)) b.next) in
      let few = y.step x.0 b.f c.step c.halts in
      rw same (a.0, rw b.here (halt_less m b.f b.n (begun_low x.0 b.f b.n a.0 b.here b.begun) (omega (arith, few, c.count))))
  proc_less (KNote x) p is i = absurd (no_actor p (is p))
  proc_less (KStore x) p is i = absurd (no_actor p (is p))
  proc_less Release p is i = absurd (no_actor p (is p))

  module _ (at2 : Places) where
    actor_fewer : (e : Event) (p : ℕ) → ((q : ℕ) → is_actor e q ≡ nat_eq q p) → frame_after at e ≡ at.frame → step_after at e ≡ at.step → IsNext m at words e → Moves m at e at2
        → events_left m at2 < events_left m at
    actor_fewer e p is frame step i v =
        let a = proc_less e p is i in
        let here : left_at m (at2.proc p) < left_at m (at.proc p) = rw (v.proc p, is p, nat_eq_self p) a.1 in
        let sum = sum_less m at at2 p m.procs a.0 here (λ q apart. ap (left_at m) (v.proc q ∙ stays e p q is apart)) in
        let kernel : left_of_kernel m at2 ≡ left_of_kernel m at = rw (v.frame, v.step, frame, step) refl in
        omega (arith, sum, kernel)
      where
        stays : (e : Event) (p q : ℕ) → ((q : ℕ) → is_actor e q ≡ nat_eq q p) → q ≢ p → proc_after m at e q ≡ at.proc q
        stays e p q is apart = let other : nat_eq q p ≡ false = grind (arith, nat_tests, apart) in rw (is q, other) refl

    kernel_fewer : (e : Event) → ((q : ℕ) → is_actor e q ≡ false) → Moves m at e at2 → left_of_kernel m at2 < left_of_kernel m at → events_left m at2 < events_left m at
    kernel_fewer e none v less = let sum = same_below m.procs in omega (arith, sum, less)
      where
        same_below : (n : ℕ) → left_below m at2 n ≡ left_below m at n
        same_below zero = refl
        same_below (suc n) = let front = same_below n in let here : left_at m (at2.proc n) ≡ left_at m (at.proc n) = rw (v.proc n, none n) refl in omega (arith, front, here)

    pub fewer : (e : Event) → IsNext m at words e → Moves m at e at2 → events_left m at2 < events_left m at
    fewer (Start x) i v = actor_fewer (Start x) x.0 (λ q. refl) refl refl i v
    fewer (Look x q) i v = actor_fewer (Look x q) x.0 (λ q. refl) refl refl i v
    fewer (Store x w) i v = actor_fewer (Store x w) x.0 (λ q. refl) refl refl i v
    fewer (Flip x) i v = actor_fewer (Flip x) x.0 (λ q. refl) refl refl i v
    fewer (Done x) i v = actor_fewer (Done x) x.0 (λ q. refl) refl refl i v
    fewer (Halt x) i v = actor_fewer (Halt x) x.0 (λ q. refl) refl refl i v
    fewer (KNote x) i v =
        let n = next_note m at words x.0 i in
        let b = k.kernel.below flies in
        let e = frame_less m.frames at.frame (m.procs + 21) b in
        kernel_fewer (KNote x) (λ q. refl) v (rw (v.frame, v.step) (omega (arith, e, n.0, n.1)))
    fewer (KStore x) i v =
        let n = next_kstore m at words x i in
        let e = frame_less m.frames at.frame (m.procs + 21) (omega (arith, n.3)) in
        kernel_fewer (KStore x) (λ q. refl) v (rw (v.frame, v.step) (omega (arith, e, n.1, n.2)))
    fewer Release i v =
        let n = next_release m at words i in
        let e = frame_less m.frames at.frame (m.procs + 21) (omega (arith, n.1)) in
        kernel_fewer Release (λ q. refl) v (rw (v.frame, v.step) (omega (arith, e, n.0)))
