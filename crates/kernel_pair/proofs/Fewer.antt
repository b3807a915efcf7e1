-- After an event fewer events remain.
use Rattle.std.proofs.Common.{◌≡◌, ◌∙◌, ℕ, zero, suc, ◌+◌, ◌-◌, ◌*◌, ◌<◌, ◌≤◌, Bool, true, false, ◌&&◌, refl, sym, ap, subst, arith}
use Rattle.std.specs.Prelude.{Option, Some, None, is_none, nat_eq, if◌then◌else◌}
use native.Mathlib.Decide.{ℕ_discrete}
use Rattle.fail_stop.specs.Events.{At, Halted, Place}
use Rattle.fail_stop.specs.Flights.{Flies, Flight}
use Rattle.fail_stop.proofs.Moves.{nat_eq_self, nat_eq_other}
use Rattle.kernel_pair.specs.declared.events.UnitHalt.{UnitHalt}
use Rattle.kernel_pair.specs.declared.events.PairEvent.{PairEvent}
use Rattle.kernel_pair.specs.declared.events.PairEvent.TheVariants.{Fly, Note, Store, Ready, Meet, Release, Stop}
use Rattle.kernel_pair.specs.Pairs.{Processor, IsPairNext, KernelUnit, Pair, frame_made, halt_frame, halted_unit, pair_after, noted, other_unit, readied, released, stepped, stops_at, stored, frame_to_make, with_at, with_unit}
use Rattle.kernel_pair.specs.Kept.{IsNamed, IsUnit, PairKept, frames_past}
use Rattle.kernel_pair.specs.Rooms.{frames_below, halt_left, pair_left, steps_left}
use Rattle.kernel_pair.proofs.Frames.{past_after, restart_past_is}
use Rattle.kernel_pair.proofs.Placing.{Read, read}
use Rattle.kernel_pair.proofs.Plans.{Behind, Goes, goes, named}

module _ (m : Flight) (proc : ℕ → Processor) (p : ℕ) (y : Processor) where
  below_same : (n : ℕ) → n ≤ p → frames_below m (with_at proc p y) n ≡ frames_below m proc n
  below_same zero l = refl
  below_same (suc n) l =
      let a = below_same n (omega arith) in
      let b = nat_eq_other n p (λ e. omega arith) in
      rw (b, a) refl

  below_less_in : frames_past (proc p).place < frames_past y.place → frames_past (proc p).place < m.frames → (n : ℕ) → p < suc n → Dec (p ≡ n) → (p < n → frames_below m (with_at proc p y) n < frames_below m proc n)
      → frames_below m (with_at proc p y) (suc n) < frames_below m proc (suc n)
  below_less_in on low n l (yes e) ih =
      let a = below_same n (omega arith) in
      let b : (m.frames - frames_past (with_at proc p y n).place) < m.frames - frames_past (proc n).place = subst (λ (k : ℕ). (m.frames - frames_past (with_at proc p y k).place) < m.frames - frames_past (proc k).place) e (rw (nat_eq_self p) (omega arith)) in
      omega (arith, a, b)
  below_less_in on low n l (no d) ih =
      let a = ih (omega arith) in
      let b = nat_eq_other n p (λ e. d (sym e)) in
      rw b (omega (arith, a))

  pub below_less : frames_past (proc p).place < frames_past y.place → frames_past (proc p).place < m.frames → (n : ℕ) → p < n → frames_below m (with_at proc p y) n < frames_below m proc n
  below_less on low zero l = absurd (omega arith)
  below_less on low (suc n) l = below_less_in on low n l (ℕ_discrete p n) (λ z. below_less on low n z)

-- If one unit has fewer steps left, then fewer events of the pair remain.
one_less : (m : Flight) (halt : Option UnitHalt) (s : Pair) (u : ℕ) (x : KernelUnit) → u < 2 → steps_left m halt u x < steps_left m halt u (s.unit u) → pair_left m halt (with_unit s u x) < pair_left m halt s
one_less m halt s zero x l less = omega arith
one_less m halt s (suc zero) x l less = omega arith
one_less m halt s (suc (suc u)) x l less = absurd (omega arith)

-- A further step reduces the number of steps left, also if it begins the next frame.
step_less : (w d j h : ℕ) → 0 < d → j < w → (d * w - suc j) + h < (d * w - j) + h
step_less w zero j h l n = absurd (omega arith)
step_less w (suc d) j h l n = let a : suc d * w ≡ d * w + w = mul_suc w d in rw a (omega arith)
  where
    mul_suc : (w d : ℕ) → suc d * w ≡ d * w + w
    mul_suc w d = grind (arith)

frame_less : (w e d j h : ℕ) → e ≡ suc d → suc j ≡ w → (d * w - 0) + h < (e * w - j) + h
frame_less w e d j h i n = let a : suc d * w ≡ d * w + w = mul_suc w d in rw (i, a) (omega arith)
  where
    mul_suc : (w d : ℕ) → suc d * w ≡ d * w + w
    mul_suc w d = grind (arith)

halt_same : (halt : Option UnitHalt) (u : ℕ) (x y : KernelUnit) → x.stopped ≡ y.stopped → halt_left halt u x ≡ halt_left halt u y
halt_same None u x y e = refl
halt_same (Some h) u x y e = ap (λ (o : Option ℕ). if nat_eq u h.unit && is_none o then 1 else 0) e

halt_is : (halt : Option UnitHalt) (u : ℕ) (x : KernelUnit) → IsNamed halt u → x.stopped ≡ None → halt_left halt u x ≡ 1
halt_is None u x n e = cc (n.is)
halt_is (Some h) u x n e =
    let same : h ≡ n.named = cc (n.is) in
    let at : nat_eq u h.unit ≡ true = rw (n.unit, same) (nat_eq_self n.named.unit) in
    rw (e, at) refl

halt_none : (halt : Option UnitHalt) (u : ℕ) (x : KernelUnit) (t : ℕ) → x.stopped ≡ Some t → halt_left halt u x ≡ 0
halt_none None u x t e = refl
halt_none (Some h) u x t e = rw e (by_unit (nat_eq u h.unit))
  where
    by_unit : (b : Bool) → ◌≡◌ {A = ℕ} (if b && false then 1 else 0) 0
    by_unit true = refl
    by_unit false = refl

past_of : (m : Flight) (p f : ℕ) (place : Place) → frame_to_make (m.restart p) place ≡ Some f → frames_past place ≤ f
past_of m p f (At g n) e = let same : g ≡ f = cc in omega arith
past_of m p f (Halted h) e = (restart_past_is (m.restart p) h f e).1

module _ (m : Flight) (halt : Option UnitHalt) (s : Pair) (y : Flies m) (k : PairKept m halt s) where
  fly_fewer : (p u f : ℕ) → p < m.procs → u < 2 → frame_to_make (m.restart p) (s.proc p).place ≡ Some f → f < (s.unit u).release → frames_below m (with_at s.proc p (frame_made m p f (s.proc p))) m.procs < frames_below m s.proc m.procs
  fly_fewer p u f lp lu e low =
      let r : Read m halt s y k u f = read m halt s y k p u f lp lu e low in
      let x : IsUnit m halt u (s.unit u) = k.units u lu in
      let a = x.below r.some in
      let same = r.frame in
      let b = past_of m p f (s.proc p).place e in
      let c = past_after f (m.halt p f) in
      below_less m s.proc p (frame_made m p f (s.proc p)) (omega arith) (omega arith) m.procs lp

  module _ (u : ℕ) (l : u < 2) (some : 0 < m.frames) (going : (s.unit u).stopped ≡ None) where
    on_step : (x : KernelUnit) → x.frame ≡ (s.unit u).frame → x.step ≡ suc (s.unit u).step → x.stopped ≡ (s.unit u).stopped → pair_left m halt (with_unit s u x) < pair_left m halt s
    on_step x frame step stopped =
        let z : IsUnit m halt u (s.unit u) = k.units u l in
        let low = z.below some in
        let steps = z.steps in
        let a = halt_same halt u x (s.unit u) stopped in
        let b = step_less (m.procs + 23) (m.frames - (s.unit u).frame) (s.unit u).step (halt_left halt u (s.unit u)) (omega arith) (omega arith) in
        let c = ap (λ (f : ℕ). (m.frames - f) * (m.procs + 23) - x.step) frame ∙ ap (λ (j : ℕ). (m.frames - (s.unit u).frame) * (m.procs + 23) - j) step in
        one_less m halt s u x l (omega (arith, a, b, c))

    on_frame : Behind m (s.unit u).frame (s.unit u).step 22 → pair_left m halt (with_unit s u (released (s.unit u))) < pair_left m halt s
    on_frame b =
        let at = b.at in
        let more = b.more in
        let a = halt_same halt u (released (s.unit u)) (s.unit u) refl in
        let b = frame_less (m.procs + 23) (m.frames - (s.unit u).frame) (m.frames - suc (s.unit u).frame) (s.unit u).step (halt_left halt u (s.unit u)) (omega arith) (omega arith) in
        one_less m halt s u (released (s.unit u)) l (omega (arith, a, b))

    on_stop : stops_at m halt u (s.unit u).frame (s.unit u).step ≡ true → pair_left m halt (with_unit s u (halted_unit (halt_frame halt) (s.unit u))) < pair_left m halt s
    on_stop e =
        let a = halt_is halt u (s.unit u) (named m halt u (s.unit u).frame (s.unit u).step e) going in
        let b = halt_none halt u (halted_unit (halt_frame halt) (s.unit u)) (halt_frame halt) refl in
        one_less m halt s u (halted_unit (halt_frame halt) (s.unit u)) l (omega (arith, a, b))

  pub fewer : (e : PairEvent) → IsPairNext m halt s e → pair_left m halt (pair_after m halt s e) < pair_left m halt s
  fewer (Fly p u) i = let a = i.2 in let b = fly_fewer p.0 u a.0 i.0 i.1 a.1 a.2 in rw a.1 (omega arith)
  fewer (Note u p) i =
      let g : Goes m halt u (s.unit u) (s.unit (other_unit u)).ready (λ p. (s.proc p).end) (Note u p) = goes m halt u (s.unit u) (s.unit (other_unit u)).ready (λ p. (s.proc p).end) (Note u p) i.1 in
      on_step u i.0 g.some g.going (noted p.0 (s.proc p.0) (s.unit u)) refl refl refl
  fewer (Store u d) i =
      let g : Goes m halt u (s.unit u) (s.unit (other_unit u)).ready (λ p. (s.proc p).end) (Store u d) = goes m halt u (s.unit u) (s.unit (other_unit u)).ready (λ p. (s.proc p).end) (Store u d) i.1 in
      on_step u i.0 g.some g.going (stored m d (s.unit u)) refl refl refl
  fewer (Ready u) i =
      let g : Goes m halt u (s.unit u) (s.unit (other_unit u)).ready (λ p. (s.proc p).end) (Ready u) = goes m halt u (s.unit u) (s.unit (other_unit u)).ready (λ p. (s.proc p).end) (Ready u) i.1 in
      on_step u i.0 g.some g.going (readied (s.unit u)) refl refl refl
  fewer (Meet u) i =
      let g : Goes m halt u (s.unit u) (s.unit (other_unit u)).ready (λ p. (s.proc p).end) (Meet u) = goes m halt u (s.unit u) (s.unit (other_unit u)).ready (λ p. (s.proc p).end) (Meet u) i.1 in
      on_step u i.0 g.some g.going (stepped (s.unit u)) refl refl refl
  fewer (Release u) i =
      let g : Goes m halt u (s.unit u) (s.unit (other_unit u)).ready (λ p. (s.proc p).end) (Release u) = goes m halt u (s.unit u) (s.unit (other_unit u)).ready (λ p. (s.proc p).end) (Release u) i.1 in
      on_frame u i.0 g.some g.going g.at
  fewer (Stop u) i =
      let g : Goes m halt u (s.unit u) (s.unit (other_unit u)).ready (λ p. (s.proc p).end) (Stop u) = goes m halt u (s.unit u) (s.unit (other_unit u)).ready (λ p. (s.proc p).end) (Stop u) i.1 in
      on_stop u i.0 g.some g.going g.at
