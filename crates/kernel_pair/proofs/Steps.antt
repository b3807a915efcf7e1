-- Each next event of a pair keeps the invariant `PairKept`.
use Rattle.std.proofs.Common.{◌≡◌, ℕ, suc, ◌+◌, ◌*◌, ◌%◌, ◌<◌, ◌≤◌, true, refl, sym, subst, ◌∙◌, arith}
use Rattle.std.specs.Prelude.{Option, Some, None, nat_eq, if◌then◌else◌}
use Rattle.std.proofs.lemmas.Bool.Decides.{nat_tests}
use native.Mathlib.Decide.{ℕ_discrete}
use Rattle.fail_stop.specs.Flights.{Flight, Flies, word_in, image_before, mark_before}
use Rattle.fail_stop.specs.Events.{may_note, after_frame}
use Rattle.fail_stop.specs.Kept.{kernel_at}
use Rattle.fail_stop.proofs.KernelEvents.{kernel_zero}
use Rattle.fail_stop.proofs.Moves.{nat_eq_self, nat_eq_other}
use Rattle.kernel_pair.specs.declared.events.UnitHalt.{UnitHalt}
use Rattle.kernel_pair.specs.declared.events.PairEvent.{PairEvent}
use Rattle.kernel_pair.specs.declared.events.PairEvent.TheVariants.{Fly, Note, Store, Ready, Meet, Release, Stop}
use Rattle.kernel_pair.specs.Pairs.{IsPairNext, Pair, frame_made, halt_frame, halted_unit, pair_after, may_meet, noted, other_unit, readied, released, stepped, stops_at, stored, frame_to_make, with_proc, with_unit}
use Rattle.kernel_pair.specs.Kept.{IsUnit, PairKept, NotBelow, readies, ready_at}
use Rattle.kernel_pair.proofs.Frames.{begun, made_is, past_after, restart_past_is}
use Rattle.kernel_pair.proofs.Moving.{by_proc, by_unit}
use Rattle.kernel_pair.proofs.Placing.{Read, Told, met_other, meetings_high, meetings_low, read, readies_high, readies_low, release_some, told}
use Rattle.kernel_pair.proofs.Plans.{Behind, Goes, goes, named}

-- The frame that a processor makes after frame `f` is ahead of each unit in frame `f` or before.
ahead_past : (m : Flight) (k j p f : ℕ) (o r : Option ℕ) → k ≤ f → (g : ℕ) → frame_to_make r (after_frame f o) ≡ Some g → NotBelow k j p g
ahead_past m k j p f None r l g e = let same : suc f ≡ g = cc in (omega arith, λ z. omega arith)
ahead_past m k j p f (Some s) r l g e = let a = (restart_past_is r f g e).1 in (omega arith, λ z. omega arith)

-- Lemmas that the ready word and the kernel words of a unit change only with the steps that write them.
ready_low : (m : Flight) (o : Option ℕ) (k a b : ℕ) → a ≤ m.procs + 20 → b ≤ m.procs + 20 → ready_at m o k a ≡ ready_at m o k b
ready_low m None k a b la lb = rw (readies_low m k a la, readies_low m k b lb) refl
ready_low m (Some t) k a b la lb = refl

ready_high : (m : Flight) (o : Option ℕ) (k a b : ℕ) → m.procs + 20 < a → m.procs + 20 < b → ready_at m o k a ≡ ready_at m o k b
ready_high m None k a b la lb = rw (readies_high m k a la, readies_high m k b lb) refl
ready_high m (Some t) k a b la lb = refl

kernel_full : (m : Flight) (k j i : ℕ) → m.procs + 20 ≤ j → i < 20 → kernel_at m k j i ≡ word_in (m.kernel_image (suc k)) i
kernel_full m k j i h l = grind (arith, nat_tests)

kernel_store : (m : Flight) (k j i d w : ℕ) → j ≡ m.procs + i → w ≡ kernel_at m k j d → (if nat_eq d i then word_in (m.kernel_image (suc k)) i else w) ≡ kernel_at m k (suc j) d
kernel_store m k j i d w h e = grind (arith, nat_tests)

-- If a unit in frame `k` may meet the other unit, and the ready word of the other unit is even, then the other unit
-- has been ready in frame `k`.
may_meet_is : (k r : ℕ) → may_meet k (2 * r) ≡ true → suc k ≤ r
may_meet_is k r e = let even : 2 * r % 2 ≡ 0 = omega arith in grind (arith, nat_tests)

module _ (m : Flight) (halt : Option UnitHalt) (s : Pair) (y : Flies m) (k : PairKept m halt s) where
  fly_keeps : (p u f : ℕ) → p < m.procs → u < 2 → frame_to_make (m.restart p) (s.proc p).place ≡ Some f → f < (s.unit u).release → PairKept m halt (with_proc s p (frame_made m p f (s.proc p)))
  fly_keeps p u f lp lu e low =
      let r : Read m halt s y k u f = read m halt s y k p u f lp lu e low in
      let x : IsUnit m halt u (s.unit u) = k.units u lu in
      let a = x.below r.some in
      let same = r.frame in
      let b = past_after f (m.halt p f) in
      by_proc m halt s k p (frame_made m p f (s.proc p))
      (made_is m p f (s.proc p) y (omega arith) (begun m p f (s.proc p) y (k.processors p lp) e))
      (λ v lv g i. ahead_past m (s.unit v).frame (s.unit v).step p f (m.halt p f) (m.restart p) (k.ahead v p lv lp f e).0 g i)
      (record { unit = u; there = lu; high = omega arith })

  module _ (u : ℕ) (l : u < 2) (some : 0 < m.frames) (going : (s.unit u).stopped ≡ None) where
    x : IsUnit m halt u (s.unit u)
    x = k.units u l

    -- Once a unit has noted all processors, the frame that each processor makes next is later than the unit's frame.
    past_notes : (j : ℕ) → m.procs ≤ (s.unit u).step → (p : ℕ) → p < m.procs → (f : ℕ) → frame_to_make (m.restart p) (s.proc p).place ≡ Some f → NotBelow (s.unit u).frame j p f
    past_notes j low p lp f e = let a = k.ahead u p l lp f e in let b = a.1 (omega arith) in (a.0, λ g. b)

    note_keeps : (s.unit u).step < m.procs → may_note m (s.unit u).step (s.unit u).frame (s.proc (s.unit u).step).end ≡ true → PairKept m halt (with_unit s u (noted (s.unit u).step (s.proc (s.unit u).step) (s.unit u)))
    note_keeps low may =
        let t : Told m halt s y k u (s.unit u).step = told m halt s y k u l going (s.unit u).step low refl may in
        by_unit m halt s k u l (noted (s.unit u).step (s.proc (s.unit u).step) (s.unit u)) (record {
          own = record {
            below = x.below;
            still = λ e. absurd (omega (arith, some, e));
            steps = omega arith;
            ending = λ g. absurd (omega arith);
            release = x.release;
            ready = x.ready ∙ ready_low m (s.unit u).stopped (s.unit u).frame (s.unit u).step (suc (s.unit u).step) (omega arith) (omega arith);
            kernel = λ i g. x.kernel i g ∙ kernel_zero m (s.unit u).frame (s.unit u).step i (omega arith) ∙ sym (kernel_zero m (s.unit u).frame (suc (s.unit u).step) i (omega arith));
            stops = x.stops;
            marks = λ p lp g. mark_at p lp g t (ℕ_discrete p (s.unit u).step);
            images = λ p i lp g li. image_at p i lp g li t (ℕ_discrete p (s.unit u).step);
          };
          ahead = λ p lp f e. ahead_at p lp f e t (ℕ_discrete p (s.unit u).step);
          on = omega arith;
          meets = λ n. rw (meetings_low m (s.unit u).frame (suc (s.unit u).step) (omega arith)) (rw (meetings_low m (s.unit u).frame (s.unit u).step (omega arith)) at (k.met u l n));
          met = λ n. rw (readies_low m (s.unit u).frame (suc (s.unit u).step) (omega arith)) (rw (readies_low m (s.unit u).frame (s.unit u).step (omega arith)) at (met_other m halt s y k u l n));
        })
      where
        mark_at : (p : ℕ) → p < m.procs → p < suc (s.unit u).step → Told m halt s y k u (s.unit u).step → Dec (p ≡ (s.unit u).step)
            → (if nat_eq p (s.unit u).step then (s.proc (s.unit u).step).mark else (s.unit u).marks p) ≡ mark_before m p (suc (s.unit u).frame)
        mark_at p lp g t (yes d) = rw (d, nat_eq_self (s.unit u).step) t.mark
        mark_at p lp g t (no d) = rw (nat_eq_other p (s.unit u).step d) (x.marks p lp (omega arith))

        image_at : (p i : ℕ) → p < m.procs → p < suc (s.unit u).step → i < m.width → Told m halt s y k u (s.unit u).step → Dec (p ≡ (s.unit u).step)
            → (if nat_eq p (s.unit u).step then (s.proc (s.unit u).step).bank ((s.proc (s.unit u).step).mark % 2) i else (s.unit u).images p i) ≡ word_in (image_before m p (suc (s.unit u).frame)) i
        image_at p i lp g li t (yes d) = rw (d, nat_eq_self (s.unit u).step) (t.image i li)
        image_at p i lp g li t (no d) = rw (nat_eq_other p (s.unit u).step d) (x.images p i lp (omega arith) li)

        ahead_at : (p : ℕ) → p < m.procs → (f : ℕ) → frame_to_make (m.restart p) (s.proc p).place ≡ Some f → Told m halt s y k u (s.unit u).step → Dec (p ≡ (s.unit u).step) → NotBelow (s.unit u).frame (suc (s.unit u).step) p f
        ahead_at p lp f e t (yes d) =
            let later = t.ahead f (subst (λ (q : ℕ). frame_to_make (m.restart q) (s.proc q).place ≡ Some f) d e) in
            ((k.ahead u p l lp f e).0, λ g. later)
        ahead_at p lp f e t (no d) = let a = k.ahead u p l lp f e in (a.0, λ g. a.1 (omega arith))

    store_keeps : (i : ℕ) → i < 20 → Behind m (s.unit u).frame (s.unit u).step i → PairKept m halt (with_unit s u (stored m i (s.unit u)))
    store_keeps i li b =
        let at = b.at in
        by_unit m halt s k u l (stored m i (s.unit u)) (record {
          own = record {
            below = x.below;
            still = λ e. absurd (omega (arith, some, e));
            steps = omega arith;
            ending = λ g. b.more;
            release = x.release;
            ready = x.ready ∙ ready_low m (s.unit u).stopped (s.unit u).frame (s.unit u).step (suc (s.unit u).step) (omega arith) (omega arith);
            kernel = λ d g. kernel_store m (s.unit u).frame (s.unit u).step i d ((s.unit u).kernel d) at (x.kernel d g);
            stops = x.stops;
            marks = λ p lp g. x.marks p lp (omega arith);
            images = λ p d lp g ld. x.images p d lp (omega arith) ld;
          };
          ahead = past_notes (suc (s.unit u).step) (omega arith);
          on = omega arith;
          meets = λ n. rw (meetings_low m (s.unit u).frame (suc (s.unit u).step) (omega arith)) (rw (meetings_low m (s.unit u).frame (s.unit u).step (omega arith)) at (k.met u l n));
          met = λ n. rw (readies_low m (s.unit u).frame (suc (s.unit u).step) (omega arith)) (rw (readies_low m (s.unit u).frame (s.unit u).step (omega arith)) at (met_other m halt s y k u l n));
        })

    ready_keeps : Behind m (s.unit u).frame (s.unit u).step 20 → PairKept m halt (with_unit s u (readied (s.unit u)))
    ready_keeps b =
        let at = b.at in
        by_unit m halt s k u l (readied (s.unit u)) (record {
          own = record {
            below = x.below;
            still = λ e. absurd (omega (arith, some, e));
            steps = omega arith;
            ending = λ g. b.more;
            release = x.release;
            ready = rw (going, readies_high m (s.unit u).frame (suc (s.unit u).step) (omega arith)) refl;
            kernel = λ d g. x.kernel d g ∙ kernel_full m (s.unit u).frame (s.unit u).step d (omega arith) g ∙ sym (kernel_full m (s.unit u).frame (suc (s.unit u).step) d (omega arith) g);
            stops = x.stops;
            marks = λ p lp g. x.marks p lp (omega arith);
            images = λ p d lp g ld. x.images p d lp (omega arith) ld;
          };
          ahead = past_notes (suc (s.unit u).step) (omega arith);
          on = omega arith;
          meets = λ n. rw (meetings_low m (s.unit u).frame (suc (s.unit u).step) (omega arith)) (rw (meetings_low m (s.unit u).frame (s.unit u).step (omega arith)) at (k.met u l n));
          met = λ n.
              let old = met_other m halt s y k u l n in
              let was = readies_low m (s.unit u).frame (s.unit u).step (omega arith) in
              let is = readies_high m (s.unit u).frame (suc (s.unit u).step) (omega arith) in
              omega (arith, old, was, is);
        })

    meet_keeps : may_meet (s.unit u).frame (s.unit (other_unit u)).ready ≡ true → Behind m (s.unit u).frame (s.unit u).step 21 → PairKept m halt (with_unit s u (stepped (s.unit u)))
    meet_keeps may b =
        let at = b.at in
        by_unit m halt s k u l (stepped (s.unit u)) (record {
          own = record {
            below = x.below;
            still = λ e. absurd (omega (arith, some, e));
            steps = omega arith;
            ending = λ g. b.more;
            release = x.release;
            ready = x.ready ∙ ready_high m (s.unit u).stopped (s.unit u).frame (s.unit u).step (suc (s.unit u).step) (omega arith) (omega arith);
            kernel = λ d g. x.kernel d g ∙ kernel_full m (s.unit u).frame (s.unit u).step d (omega arith) g ∙ sym (kernel_full m (s.unit u).frame (suc (s.unit u).step) d (omega arith) g);
            stops = x.stops;
            marks = λ p lp g. x.marks p lp (omega arith);
            images = λ p d lp g ld. x.images p d lp (omega arith) ld;
          };
          ahead = past_notes (suc (s.unit u).step) (omega arith);
          on = omega arith;
          meets = λ n. rw (meetings_high m (s.unit u).frame (suc (s.unit u).step) (omega arith)) (has_been n);
          met = λ n. rw (readies_high m (s.unit u).frame (suc (s.unit u).step) (omega arith)) (rw (readies_high m (s.unit u).frame (s.unit u).step (omega arith)) at (met_other m halt s y k u l n));
        })
      where
        other_less : (u : ℕ) → u < 2 → other_unit u < 2
        other_less u l = omega arith

        has_been : (s.unit (other_unit u)).stopped ≡ None → suc (s.unit u).frame ≤ readies m (s.unit (other_unit u)).frame (s.unit (other_unit u)).step
        has_been n =
            let z : IsUnit m halt (other_unit u) (s.unit (other_unit u)) = k.units (other_unit u) (other_less u l) in
            let is : (s.unit (other_unit u)).ready ≡ 2 * readies m (s.unit (other_unit u)).frame (s.unit (other_unit u)).step = z.ready ∙ rw n refl in
            may_meet_is (s.unit u).frame (readies m (s.unit (other_unit u)).frame (s.unit (other_unit u)).step) (subst (λ (w : ℕ). may_meet (s.unit u).frame w ≡ true) is may)

    release_keeps : Behind m (s.unit u).frame (s.unit u).step 22 → PairKept m halt (with_unit s u (released (s.unit u)))
    release_keeps b =
        let at = b.at in
        by_unit m halt s k u l (released (s.unit u)) (record {
          own = record {
            below = λ g. b.more;
            still = λ e. absurd (omega (arith, some, e));
            steps = omega arith;
            ending = λ g. absurd (omega arith);
            release = sym (release_some m (suc (s.unit u).frame) some);
            ready = x.ready ∙ ready_next (s.unit u).stopped;
            kernel = λ d g. x.kernel d g ∙ kernel_full m (s.unit u).frame (s.unit u).step d (omega arith) g ∙ sym (kernel_zero m (suc (s.unit u).frame) 0 d (omega arith));
            stops = x.stops;
            marks = λ p lp g. absurd (omega arith);
            images = λ p d lp g ld. absurd (omega arith);
          };
          ahead = λ p lp f e. let a = (k.ahead u p l lp f e).1 (omega arith) in (a, λ g. absurd (omega arith));
          on = omega arith;
          meets = λ n. rw (meetings_low m (suc (s.unit u).frame) 0 (omega arith)) (rw (meetings_high m (s.unit u).frame (s.unit u).step (omega arith)) at (k.met u l n));
          met = λ n. rw (readies_low m (suc (s.unit u).frame) 0 (omega arith)) (rw (readies_high m (s.unit u).frame (s.unit u).step (omega arith)) at (met_other m halt s y k u l n));
        })
      where
        ready_next : (o : Option ℕ) → ready_at m o (s.unit u).frame (s.unit u).step ≡ ready_at m o (suc (s.unit u).frame) 0
        ready_next None = let at = b.at in rw (readies_high m (s.unit u).frame (s.unit u).step (omega arith), readies_low m (suc (s.unit u).frame) 0 (omega arith)) refl
        ready_next (Some t) = refl

    stop_keeps : stops_at m halt u (s.unit u).frame (s.unit u).step ≡ true → PairKept m halt (with_unit s u (halted_unit (halt_frame halt) (s.unit u)))
    stop_keeps i = by_unit m halt s k u l (halted_unit (halt_frame halt) (s.unit u)) (record {
      own = record {
        below = x.below;
        still = x.still;
        steps = x.steps;
        ending = x.ending;
        release = x.release;
        ready = refl;
        kernel = x.kernel;
        stops = λ t e. named m halt u (s.unit u).frame (s.unit u).step i;
        marks = x.marks;
        images = x.images;
      };
      ahead = λ p lp. k.ahead u p l lp;
      on = omega arith;
      meets = k.met u l;
      met = λ n. cc;
    })

  pub keeps : (e : PairEvent) → IsPairNext m halt s e → PairKept m halt (pair_after m halt s e)
  keeps (Fly p u) i = let a = i.2 in rw a.1 (fly_keeps p.0 u a.0 i.0 i.1 a.1 a.2)
  keeps (Note u p) i =
      let g : Goes m halt u (s.unit u) (s.unit (other_unit u)).ready (λ p. (s.proc p).end) (Note u p) = goes m halt u (s.unit u) (s.unit (other_unit u)).ready (λ p. (s.proc p).end) (Note u p) i.1 in
      rw (g.at.1) (note_keeps u i.0 g.some g.going g.at.0 g.at.2)
  keeps (Store u d) i =
      let g : Goes m halt u (s.unit u) (s.unit (other_unit u)).ready (λ p. (s.proc p).end) (Store u d) = goes m halt u (s.unit u) (s.unit (other_unit u)).ready (λ p. (s.proc p).end) (Store u d) i.1 in
      store_keeps u i.0 g.some g.going d g.at.0 g.at.1
  keeps (Ready u) i =
      let g : Goes m halt u (s.unit u) (s.unit (other_unit u)).ready (λ p. (s.proc p).end) (Ready u) = goes m halt u (s.unit u) (s.unit (other_unit u)).ready (λ p. (s.proc p).end) (Ready u) i.1 in
      ready_keeps u i.0 g.some g.going g.at
  keeps (Meet u) i =
      let g : Goes m halt u (s.unit u) (s.unit (other_unit u)).ready (λ p. (s.proc p).end) (Meet u) = goes m halt u (s.unit u) (s.unit (other_unit u)).ready (λ p. (s.proc p).end) (Meet u) i.1 in
      meet_keeps u i.0 g.some g.going g.at.0 g.at.1
  keeps (Release u) i =
      let g : Goes m halt u (s.unit u) (s.unit (other_unit u)).ready (λ p. (s.proc p).end) (Release u) = goes m halt u (s.unit u) (s.unit (other_unit u)).ready (λ p. (s.proc p).end) (Release u) i.1 in
      release_keeps u i.0 g.some g.going g.at
  keeps (Stop u) i =
      let g : Goes m halt u (s.unit u) (s.unit (other_unit u)).ready (λ p. (s.proc p).end) (Stop u) = goes m halt u (s.unit u) (s.unit (other_unit u)).ready (λ p. (s.proc p).end) (Stop u) i.1 in
      stop_keeps u i.0 g.some g.going g.at
