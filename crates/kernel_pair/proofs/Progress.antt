-- If a pair is not over, some processor or some unit has a next event.
use Rattle.std.proofs.Common.{◌≡◌, ◌⊎◌, ℕ, suc, ◌+◌, ◌-◌, ◌*◌, ◌%◌, ◌<◌, ◌≤◌, Bool, true, false, ◌||◌, refl, sym, ap, subst, ◌∙◌, inl, inr, arith}
use Rattle.std.specs.Prelude.{Option, Some, None, nat_lt, nat_le, nat_eq, if◌then◌else◌}
use Rattle.std.proofs.lemmas.Bool.Decides.{nat_tests}
use Rattle.std.proofs.lemmas.Bool.{lt-ltb}
use native.Mathlib.Decide.{dec_le, ℕ_discrete}
use Rattle.scram_types.specs.Lookups.{proc_id}
use Rattle.fail_stop.specs.Flights.{Flight, Flies, back_by, end_word_after}
use Rattle.fail_stop.specs.Ends.{IsDone}
use Rattle.fail_stop.specs.Events.{Place, At, Halted, may_note}
use Rattle.fail_stop.specs.Kept.{end_at}
use Rattle.fail_stop.proofs.FrameSteps.{end_up}
use Rattle.fail_stop.proofs.Progress.{may_done, may_halted, Found, found}
use Rattle.kernel_pair.specs.declared.events.UnitHalt.{UnitHalt}
use Rattle.kernel_pair.specs.declared.events.PairEvent.TheVariants.{Fly, Note, Store, Ready, Meet, Release, Stop}
use Rattle.kernel_pair.specs.Laws.{HasNext, noted_frames}
use Rattle.kernel_pair.specs.Pairs.{IsAtEnd, IsPairOver, KernelUnit, Pair, frame_to_make, may_meet, next_going, next_unit, other_unit, plan_noted, plan_unit, restart_past, stops_at}
use Rattle.kernel_pair.specs.Kept.{IsProcessor, IsNamed, IsStanding, IsUnit, PairKept, frames_past, readies, ready_at}
use Rattle.kernel_pair.proofs.Frames.{restart_past_some}
use Rattle.kernel_pair.proofs.Moving.{both}
use Rattle.kernel_pair.proofs.Placing.{bounded, none_ahead, readies_high, release_some}

-- If a unit waits in frame `k` for a processor, then the processor makes frame `k` next.
to_make_now : (m : Flight) (p k e : ℕ) (place : Place) → IsStanding m p place → e ≡ end_at m p place → may_note m p k e ≡ false
    → ((f : ℕ) → frame_to_make (m.restart p) place ≡ Some f → k ≤ f) → frames_past place ≤ suc k → frame_to_make (m.restart p) place ≡ Some k
to_make_now m p k e (At f n) w i may low high = ap (λ (x : ℕ). Some x) (now (ℕ_discrete f (suc k)) (low f refl))
  where
    now : Dec (f ≡ suc k) → k ≤ f → f ≡ k
    now (yes d) l = let may2 : may_note m p k e ≡ true = may_done m p k e (i ∙ w.done ∙ ap (λ (x : ℕ). 2 * x) d) in absurd (cc)
    now (no d) l = omega arith
to_make_now m p k e (Halted h) d i may low high = by_back (back_by (m.restart p) h k) refl
  where
    end_is : e ≡ 2 * h + 1
    end_is = i ∙ end_up m p h d.up ∙ ap (λ (o : Option ℕ). end_word_after h o) d.halts

    by_back : (b : Bool) → back_by (m.restart p) h k ≡ b → restart_past h (m.restart p) ≡ Some k
    by_back true j =
        let b : Found (m.restart p) h k = found (m.restart p) h k j in
        let there = restart_past_some (m.restart p) h b.r b.is b.low in
        let a = low b.r there in
        let c = b.high in
        let same : b.r ≡ k = omega arith in
        there ∙ ap (λ (x : ℕ). Some x) same
    by_back false j = let may2 = may_halted m p k h e end_is j in absurd (cc)

-- Unit `x` waits to meet the other unit, whose ready word is `ready`.
record Meeting (m : Flight) (x : KernelUnit) (ready : ℕ) : Type 0 where
  at : x.step ≡ m.procs + 21
  more : suc x.frame < m.frames
  waits : may_meet x.frame ready ≡ false

not_met : (k r : ℕ) → may_meet k (2 * r) ≡ false → r ≤ k
not_met k r e = let even : 2 * r % 2 ≡ 0 = omega arith in grind (arith, nat_tests)

odd_met : (k t : ℕ) → may_meet k (2 * t + 1) ≡ true
odd_met k t = let odd : (2 * t + 1) % 2 ≡ 1 = omega arith in rw odd (or_true (nat_le (2 * suc k) (2 * t + 1)))
  where
    or_true : (b : Bool) → (b || true) ≡ true
    or_true true = refl
    or_true false = refl

-- The other unit, `y`, has not halted, and has not been ready in the frame of unit `x`.
record Late (m : Flight) (x y : KernelUnit) : Type 0 where
  going : y.stopped ≡ None
  low : readies m y.frame y.step ≤ x.frame

late_by : (m : Flight) (x y : KernelUnit) (o : Option ℕ) → y.stopped ≡ o → y.ready ≡ ready_at m o y.frame y.step → may_meet x.frame y.ready ≡ false → Late m x y
late_by m x y None i is e = record { going = i; low = not_met x.frame (readies m y.frame y.step) (subst (λ (w : ℕ). may_meet x.frame w ≡ false) is e) }
late_by m x y (Some t) i is e = let met = odd_met x.frame t in absurd (cc)

readies_least : (m : Flight) (k j : ℕ) → k ≤ readies m k j
readies_least m k j = grind (arith, nat_tests)

-- At least one unit has not halted.
pub one_stays : (m : Flight) (halt : Option UnitHalt) (s : Pair) → PairKept m halt s → ((s.unit 0).stopped ≡ None) ⊎ ((s.unit 1).stopped ≡ None)
one_stays m halt s k = by_stopped (s.unit 0).stopped refl (s.unit 1).stopped refl
  where
    named_once : (o : Option UnitHalt) (a b : UnitHalt) → o ≡ Some a → o ≡ Some b → 0 ≡ a.unit → 1 ≡ b.unit → ⊥
    named_once o a b i j c d = let same : a ≡ b = cc in let e = ap (λ (h : UnitHalt). h.unit) same in absurd (omega arith)

    by_stopped : (o : Option ℕ) → (s.unit 0).stopped ≡ o → (q : Option ℕ) → (s.unit 1).stopped ≡ q → ((s.unit 0).stopped ≡ None) ⊎ ((s.unit 1).stopped ≡ None)
    by_stopped None i q j = inl i
    by_stopped (Some t) i None j = inr j
    by_stopped (Some t) i (Some r) j =
        let z : IsUnit m halt 0 (s.unit 0) = k.units 0 (omega arith) in
        let w : IsUnit m halt 1 (s.unit 1) = k.units 1 (omega arith) in
        let a : IsNamed halt 0 = z.stops t i in
        let b : IsNamed halt 1 = w.stops r j in
        absurd (named_once halt a.named b.named a.is b.is a.unit b.unit)

module _ (m : Flight) (halt : Option UnitHalt) (s : Pair) (y : Flies m) (k : PairKept m halt s) (some : 0 < m.frames) where
  ends : ℕ → ℕ
  ends p = (s.proc p).end

  module _ (u : ℕ) (l : u < 2) (going : (s.unit u).stopped ≡ None) where
    x : IsUnit m halt u (s.unit u)
    x = k.units u l

    next_is : next_unit m halt s u ≡ next_going m u (s.unit u) (s.unit (other_unit u)).ready (λ p. (s.proc p).end) (stops_at m halt u (s.unit u).frame (s.unit u).step)
    next_is = rw (not_none m.frames some, going) refl
      where
        not_none : (n : ℕ) → 0 < n → nat_eq n 0 ≡ false
        not_none n h = grind (arith, nat_tests)

    noting : (s.unit u).step < m.procs → next_unit m halt s u ≡ plan_unit m u (s.unit u).frame (s.unit u).step (s.unit (other_unit u)).ready (λ p. (s.proc p).end)
        → (b : Bool) → may_note m (s.unit u).step (s.unit u).frame (s.proc (s.unit u).step).end ≡ b → HasNext m halt s
    noting low i true may = (Note u (proc_id (s.unit u).step), (l, i ∙ rw (lt-ltb (s.unit u).step m.procs low, may) refl))
    noting low i false may =
        let o : IsProcessor m (s.unit u).step (s.proc (s.unit u).step) = k.processors (s.unit u).step low in
        let high = bounded m halt s y k (s.unit u).step low (s.unit u).frame (none_ahead m halt s y k u l going (omega arith)) in
        let now = to_make_now m (s.unit u).step (s.unit u).frame (s.proc (s.unit u).step).end (s.proc (s.unit u).step).place o.place o.end may (λ f e. (k.ahead u (s.unit u).step l low f e).0) high in
        let free : (s.unit u).release ≡ suc (s.unit u).frame = x.release ∙ release_some m (s.unit u).frame some in
        (Fly (proc_id (s.unit u).step) u, (low, l, ((s.unit u).frame, now, omega arith)))

    behind : next_unit m halt s u ≡ plan_noted m u (s.unit u).frame (s.unit u).step (s.unit (other_unit u)).ready → m.procs ≤ (s.unit u).step → suc (s.unit u).frame < m.frames
        → Dec ((s.unit u).step < m.procs + 20) → Dec ((s.unit u).step ≡ m.procs + 20) → Dec ((s.unit u).step ≡ m.procs + 21)
        → (b : Bool) → may_meet (s.unit u).frame (s.unit (other_unit u)).ready ≡ b
        → HasNext m halt s ⊎ Meeting m (s.unit u) (s.unit (other_unit u)).ready
    behind i low more (yes a) b c met may = inl (Store u ((s.unit u).step - m.procs), (l, i ∙ rw (lt-ltb (s.unit u).step (m.procs + 20) a) refl))
    behind i low more (no a) (yes b) c met may = inl (Ready u, (l, i ∙ at_ready b))
      where
        at_ready : (s.unit u).step ≡ m.procs + 20 → plan_noted m u (s.unit u).frame (s.unit u).step (s.unit (other_unit u)).ready ≡ Some (Ready u)
        at_ready b = grind (arith, nat_tests)
    behind i low more (no a) (no b) (yes c) true may = inl (Meet u, (l, i ∙ at_meet c may))
      where
        at_meet : (s.unit u).step ≡ m.procs + 21 → may_meet (s.unit u).frame (s.unit (other_unit u)).ready ≡ true → plan_noted m u (s.unit u).frame (s.unit u).step (s.unit (other_unit u)).ready ≡ Some (Meet u)
        at_meet c may = rw may (tests (s.unit u).step c)
          where
            tests : (j : ℕ) → j ≡ m.procs + 21 → (if nat_lt j (m.procs + 20) then Some (Store u (j - m.procs)) else (if nat_eq j (m.procs + 20) then Some (Ready u) else (if nat_eq j (m.procs + 21) then Some (Meet u) else (if nat_eq j (m.procs + 22) then Some (Release u) else None)))) ≡ Some (Meet u)
            tests j e = grind (arith, nat_tests)
    behind i low more (no a) (no b) (yes c) false may = inr (record { at = c; more = more; waits = may })
    behind i low more (no a) (no b) (no c) met may = let steps = x.steps in inl (Release u, (l, i ∙ at_release (omega arith)))
      where
        at_release : (s.unit u).step ≡ m.procs + 22 → plan_noted m u (s.unit u).frame (s.unit u).step (s.unit (other_unit u)).ready ≡ Some (Release u)
        at_release e = grind (arith, nat_tests)

    -- Some actor has a next event, or the unit has made its last note or waits for the other unit.
    more_by : next_unit m halt s u ≡ plan_unit m u (s.unit u).frame (s.unit u).step (s.unit (other_unit u)).ready (λ p. (s.proc p).end) → Dec ((s.unit u).step < m.procs) → Dec (suc (s.unit u).frame < m.frames)
        → HasNext m halt s ⊎ (IsAtEnd m (s.unit u) ⊎ Meeting m (s.unit u) (s.unit (other_unit u)).ready)
    more_by i (yes a) b = inl (noting a i (may_note m (s.unit u).step (s.unit u).frame (s.proc (s.unit u).step).end) refl)
    more_by i (no a) (yes b) = apart (behind (i ∙ rw (not_low (s.unit u).step m.procs a, lt-ltb (suc (s.unit u).frame) m.frames b) refl) (omega arith) b (dec_le (suc (s.unit u).step) (m.procs + 20)) (ℕ_discrete (s.unit u).step (m.procs + 20)) (ℕ_discrete (s.unit u).step (m.procs + 21)) (may_meet (s.unit u).frame (s.unit (other_unit u)).ready) refl)
      where
        not_low : (a b : ℕ) → (a < b → ⊥) → nat_lt a b ≡ false
        not_low a b n = let l : b ≤ a = omega arith in grind (arith, nat_tests)

        apart : HasNext m halt s ⊎ Meeting m (s.unit u) (s.unit (other_unit u)).ready → HasNext m halt s ⊎ (IsAtEnd m (s.unit u) ⊎ Meeting m (s.unit u) (s.unit (other_unit u)).ready)
        apart (inl g) = inl g
        apart (inr g) = inr (inr g)
    more_by i (no a) (no b) = let low = x.below some in inr (inl (record { last = omega arith; noted_all = omega arith }))

    unit_goes_by : (b : Bool) → stops_at m halt u (s.unit u).frame (s.unit u).step ≡ b → HasNext m halt s ⊎ (IsAtEnd m (s.unit u) ⊎ Meeting m (s.unit u) (s.unit (other_unit u)).ready)
    unit_goes_by true e = inl (Stop u, (l, next_is ∙ rw e refl))
    unit_goes_by false e = more_by (next_is ∙ rw e refl) (dec_le (suc (s.unit u).step) m.procs) (dec_le (suc (suc (s.unit u).frame)) m.frames)

    unit_goes : HasNext m halt s ⊎ (IsAtEnd m (s.unit u) ⊎ Meeting m (s.unit u) (s.unit (other_unit u)).ready)
    unit_goes = unit_goes_by (stops_at m halt u (s.unit u).frame (s.unit u).step) refl

  other_less : (u : ℕ) → other_unit u < 2
  other_less u = omega arith

  other_back : (u : ℕ) → u < 2 → other_unit (other_unit u) ≡ u
  other_back u l = omega arith

  late : (u : ℕ) → u < 2 → Meeting m (s.unit u) (s.unit (other_unit u)).ready → Late m (s.unit u) (s.unit (other_unit u))
  late u l w = let z : IsUnit m halt (other_unit u) (s.unit (other_unit u)) = k.units (other_unit u) (other_less u) in late_by m (s.unit u) (s.unit (other_unit u)) (s.unit (other_unit u)).stopped refl (z.ready) w.waits

  -- If a unit has made its last note, then each processor has made all frames or has halted for good.
  all_done : (u : ℕ) → u < 2 → IsAtEnd m (s.unit u) → ((p r : ℕ) → m.restart p ≡ Some r → suc r ≤ m.frames) → (p : ℕ) → p < m.procs → IsDone m p (s.proc p).place
  all_done u l end within p lp = by_place (s.proc p).place (let o : IsProcessor m p (s.proc p) = k.processors p lp in o.place) (λ f e. (k.ahead u p l lp f e).1 (let n = end.noted_all in omega arith))
    where
      by_place : (place : Place) → IsStanding m p place → ((f : ℕ) → frame_to_make (m.restart p) place ≡ Some f → (s.unit u).frame < f) → IsDone m p place
      by_place (At f n) w a = let b = a f refl in let c = end.last in let d = w.within in omega arith
      by_place (Halted h) w a = λ r e. by_order r e (dec_le r h)
        where
          by_order : (r : ℕ) → m.restart p ≡ Some r → Dec (r ≤ h) → r ≤ h
          by_order r e (yes l) = l
          by_order r e (no n) =
              let b = a r (restart_past_some (m.restart p) h r e (omega arith)) in
              let c = end.last in
              let d = within p r e in
              absurd (omega arith)

  over_if : (u : ℕ) → u < 2 → IsAtEnd m (s.unit u) → ((s.unit (other_unit u)).stopped ≡ None → IsAtEnd m (s.unit (other_unit u))) → ((p r : ℕ) → m.restart p ≡ Some r → suc r ≤ m.frames) → IsPairOver m s
  over_if u l a b within = inr (all_done u l a within, both u l (λ v. (s.unit v).stopped ≡ None → IsAtEnd m (s.unit v)) (λ n. a) b)

  -- If unit `u` has been ready in the frame of the other unit, and the other unit has not halted, then the other unit
  -- does not wait for `u`. Some actor has a next event, or the other unit has made its last note.
  other_goes : (u : ℕ) → u < 2 → (s.unit (other_unit u)).stopped ≡ None → ((s.unit (other_unit u)).frame < readies m (s.unit u).frame (s.unit u).step ⊎ IsAtEnd m (s.unit (other_unit u)))
      → HasNext m halt s ⊎ IsAtEnd m (s.unit (other_unit u))
  other_goes u l going c = sorted (unit_goes (other_unit u) (other_less u) going)
    where
      waiting : Meeting m (s.unit (other_unit u)) (s.unit (other_unit (other_unit u))).ready → readies m (s.unit u).frame (s.unit u).step ≤ (s.unit (other_unit u)).frame
      waiting w = let d : Late m (s.unit (other_unit u)) (s.unit (other_unit (other_unit u))) = late (other_unit u) (other_less u) w in rw (other_back u l) at d.low

      sorted : HasNext m halt s ⊎ (IsAtEnd m (s.unit (other_unit u)) ⊎ Meeting m (s.unit (other_unit u)) (s.unit (other_unit (other_unit u))).ready) → HasNext m halt s ⊎ IsAtEnd m (s.unit (other_unit u))
      sorted (inl g) = inl g
      sorted (inr (inl e)) = inr e
      sorted (inr (inr w)) = by_order c
        where
          by_order : ((s.unit (other_unit u)).frame < readies m (s.unit u).frame (s.unit u).step ⊎ IsAtEnd m (s.unit (other_unit u))) → HasNext m halt s ⊎ IsAtEnd m (s.unit (other_unit u))
          by_order (inl d) = let a = waiting w in absurd (omega arith)
          by_order (inr e) = inr e

  going_on : (u : ℕ) → u < 2 → (s.unit u).stopped ≡ None → ((p r : ℕ) → m.restart p ≡ Some r → suc r ≤ m.frames) → IsPairOver m s ⊎ HasNext m halt s
  going_on u l going within = sorted (unit_goes u l going)
    where
      v : IsUnit m halt (other_unit u) (s.unit (other_unit u))
      v = k.units (other_unit u) (other_less u)

      at_end : IsAtEnd m (s.unit u) → (o : Option ℕ) → (s.unit (other_unit u)).stopped ≡ o → IsPairOver m s ⊎ HasNext m halt s
      at_end e (Some t) i = inl (over_if u l e (λ n. cc) within)
      at_end e None i = finish (order (dec_le (suc (suc (s.unit (other_unit u)).frame)) m.frames))
        where
          finish : HasNext m halt s ⊎ IsAtEnd m (s.unit (other_unit u)) → IsPairOver m s ⊎ HasNext m halt s
          finish (inl g) = inr g
          finish (inr f) = inl (over_if u l e (λ n. f) within)

          order : Dec (suc (s.unit (other_unit u)).frame < m.frames) → HasNext m halt s ⊎ IsAtEnd m (s.unit (other_unit u))
          order (yes d) = let a = readies_least m (s.unit u).frame (s.unit u).step in let b = e.last in other_goes u l i (inl (omega arith))
          order (no d) = last_goes (unit_goes (other_unit u) (other_less u) i)
            where
              last_goes : HasNext m halt s ⊎ (IsAtEnd m (s.unit (other_unit u)) ⊎ Meeting m (s.unit (other_unit u)) (s.unit (other_unit (other_unit u))).ready) → HasNext m halt s ⊎ IsAtEnd m (s.unit (other_unit u))
              last_goes (inl g) = inl g
              last_goes (inr (inl f)) = inr f
              last_goes (inr (inr w)) = let a = w.more in absurd (omega arith)

      at_meeting : Meeting m (s.unit u) (s.unit (other_unit u)).ready → IsPairOver m s ⊎ HasNext m halt s
      at_meeting w =
          let d : Late m (s.unit u) (s.unit (other_unit u)) = late u l w in
          let low = d.low in
          let a = readies_least m (s.unit (other_unit u)).frame (s.unit (other_unit u)).step in
          let at = w.at in
          let b = readies_high m (s.unit u).frame (s.unit u).step (omega arith) in
          finish (other_goes u l d.going (inl (omega arith)))
        where
          finish : HasNext m halt s ⊎ IsAtEnd m (s.unit (other_unit u)) → IsPairOver m s ⊎ HasNext m halt s
          finish (inl g) = inr g
          finish (inr f) =
              let d : Late m (s.unit u) (s.unit (other_unit u)) = late u l w in
              let low = d.low in
              let a = readies_least m (s.unit (other_unit u)).frame (s.unit (other_unit u)).step in
              let b = f.last in
              let c = w.more in
              absurd (omega arith)

      sorted : HasNext m halt s ⊎ (IsAtEnd m (s.unit u) ⊎ Meeting m (s.unit u) (s.unit (other_unit u)).ready) → IsPairOver m s ⊎ HasNext m halt s
      sorted (inl g) = inr g
      sorted (inr (inl e)) = at_end e (s.unit (other_unit u)).stopped refl
      sorted (inr (inr w)) = at_meeting w

  one_goes : ((p r : ℕ) → m.restart p ≡ Some r → suc r ≤ m.frames) → ((s.unit 0).stopped ≡ None) ⊎ ((s.unit 1).stopped ≡ None) → IsPairOver m s ⊎ HasNext m halt s
  one_goes within (inl i) = going_on 0 (omega arith) i within
  one_goes within (inr i) = going_on 1 (omega arith) i within

  -- If at least one unit has not halted, and each unit that has not halted has made its last note, then the pair is
  -- over.
  units_over : ((p r : ℕ) → m.restart p ≡ Some r → suc r ≤ m.frames) → ((u : ℕ) → u < 2 → (s.unit u).stopped ≡ None → IsAtEnd m (s.unit u)) → ((s.unit 0).stopped ≡ None) ⊎ ((s.unit 1).stopped ≡ None) → IsPairOver m s
  units_over within ends_are (inl i) = over_if 0 (omega arith) (ends_are 0 (omega arith) i) (ends_are 1 (omega arith)) within
  units_over within ends_are (inr i) = over_if 1 (omega arith) (ends_are 1 (omega arith) i) (ends_are 0 (omega arith)) within

pub progress : (m : Flight) (halt : Option UnitHalt) (s : Pair) → Flies m → ((p r : ℕ) → m.restart p ≡ Some r → suc r ≤ m.frames) → PairKept m halt s → IsPairOver m s ⊎ HasNext m halt s
progress m halt s y within k = by_frames (ℕ_discrete m.frames 0)
  where
    by_frames : Dec (m.frames ≡ 0) → IsPairOver m s ⊎ HasNext m halt s
    by_frames (yes e) = inl (inl e)
    by_frames (no n) = one_goes m halt s y k (omega arith) within (one_stays m halt s k)

-- If each unit that has not halted has made its last note, then the pair is over.
pub over_by : (m : Flight) (halt : Option UnitHalt) (s : Pair) → Flies m → ((p r : ℕ) → m.restart p ≡ Some r → suc r ≤ m.frames) → PairKept m halt s → ((u : ℕ) → u < 2 → (s.unit u).stopped ≡ None → IsAtEnd m (s.unit u)) → IsPairOver m s
over_by m halt s y within k ends_are = by_frames (ℕ_discrete m.frames 0)
  where
    by_frames : Dec (m.frames ≡ 0) → IsPairOver m s
    by_frames (yes e) = inl e
    by_frames (no n) = units_over m halt s y k (omega arith) within ends_are (one_stays m halt s k)

-- If the pair is over, then a unit that has not halted has noted all frames.
noted_end : (n j k f : ℕ) → suc k ≡ f → n ≤ j → (if nat_le n j then suc k else k) ≡ f
noted_end n j k f e l = grind (arith, nat_tests)

noted_none : (n j k : ℕ) → 0 < n → k ≡ 0 → j ≡ 0 → (if nat_le n j then suc k else k) ≡ 0
noted_none n j k l a b = grind (arith, nat_tests)

pub over_noted : (m : Flight) (halt : Option UnitHalt) (s : Pair) → 0 < m.procs → PairKept m halt s → IsPairOver m s → (u : ℕ) → u < 2 → (s.unit u).stopped ≡ None → noted_frames m (s.unit u) ≡ m.frames
over_noted m halt s l k (inl e) u lu going =
    let x : IsUnit m halt u (s.unit u) = k.units u lu in
    let a = x.still e in
    noted_none m.procs (s.unit u).step (s.unit u).frame l a.0 a.1 ∙ sym e
over_noted m halt s l k (inr o) u lu going = let e : IsAtEnd m (s.unit u) = o.1 u lu going in noted_end m.procs (s.unit u).step (s.unit u).frame m.frames e.last e.noted_all
