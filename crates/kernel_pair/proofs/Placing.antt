-- Lemmas that a processor that makes a frame reads the words of that frame, and that a unit notes the marks and
-- images after its frame.
use Rattle.std.proofs.Common.{◌≡◌, ℕ, suc, ◌+◌, ◌%◌, ◌<◌, ◌≤◌, true, refl, sym, ap, subst, ◌∙◌, arith}
use Rattle.std.specs.Prelude.{Option, Some, None}
use Rattle.std.proofs.lemmas.Bool.Decides.{nat_tests}
use native.Mathlib.Decide.{dec_le}
use Rattle.bank_words.specs.Marks.{pick}
use Rattle.fail_stop.specs.Flights.{Flight, Flies, word_in, image_before, mark_before, side}
use Rattle.fail_stop.specs.Events.{Place, At, Halted, may_note}
use Rattle.fail_stop.specs.Kept.{IsPlaced, release_at}
use Rattle.fail_stop.proofs.FrameFacts.{side_le}
use Rattle.fail_stop.proofs.KernelEvents.{Noted, kernel_zero, noted_by}
use Rattle.fail_stop.proofs.ProcessorEvents.{side_of}
use Rattle.fail_stop.proofs.Reading.{Gives, Shows, gives, shows}
use Rattle.kernel_pair.specs.declared.events.UnitHalt.{UnitHalt}
use Rattle.kernel_pair.specs.Pairs.{Pair, frame_to_make, other_unit}
use Rattle.kernel_pair.specs.Kept.{HasMet, IsProcessor, IsStanding, IsUnit, PairKept, NotBelow, meetings, frames_past, readies}
use Rattle.kernel_pair.proofs.Frames.{restart_past_is, restart_past_some}
use Rattle.kernel_pair.proofs.Moving.{both, two}

-- If the frame that processor `p` makes next satisfies `NotBelow` for frame `k` and step `j` of a unit, and at most
-- `k + 1` frames are past for `p`, then the place of `p` satisfies `IsPlaced` for a single kernel in frame `k` after
-- `j` steps.
pub placed_by : (m : Flight) (k j p : ℕ) (place : Place) → IsStanding m p place → ((f : ℕ) → frame_to_make (m.restart p) place ≡ Some f → NotBelow k j p f) → frames_past place ≤ suc k → IsPlaced m k j p place
placed_by m k j p (At f n) w a b = record { up = w.up; low = (a f refl).0; high = b; fresh = λ g. w.fresh; within = rw w.fresh (omega arith); noted = (a f refl).1; done = λ g. w.done }
placed_by m k j p (Halted h) d a b = record {
  step = d.step;
  up = d.up;
  halts = d.halts;
  high = omega arith;
  later = λ r e l. (a r (restart_past_some (m.restart p) h r e l)).0;
  noted = λ g r e l. (a r (restart_past_some (m.restart p) h r e l)).1 g;
}

-- If a processor that may be noted in frame `k` makes a further frame, that frame is later than frame `k`.
noted_ahead : (m : Flight) (k p f : ℕ) (place : Place) → Noted m k p place → frame_to_make (m.restart p) place ≡ Some f → k < f
noted_ahead m k p f (At g n) l e = let same : g ≡ f = cc in subst (λ (x : ℕ). k < x) same l
noted_ahead m k p f (Halted h) l e = let r = restart_past_is (m.restart p) h f e in l f r.0 r.1

pub meetings_low : (m : Flight) (k j : ℕ) → j ≤ m.procs + 21 → meetings m k j ≡ k
meetings_low m k j l = grind (arith, nat_tests)

pub meetings_high : (m : Flight) (k j : ℕ) → m.procs + 21 < j → meetings m k j ≡ suc k
meetings_high m k j l = grind (arith, nat_tests)

pub readies_low : (m : Flight) (k j : ℕ) → j ≤ m.procs + 20 → readies m k j ≡ k
readies_low m k j l = grind (arith, nat_tests)

pub readies_high : (m : Flight) (k j : ℕ) → m.procs + 20 < j → readies m k j ≡ suc k
readies_high m k j l = grind (arith, nat_tests)

pub meetings_least : (m : Flight) (k j : ℕ) → k ≤ meetings m k j
meetings_least m k j = grind (arith, nat_tests)

pub release_some : (m : Flight) (k : ℕ) → 0 < m.frames → release_at m k ≡ suc k
release_some m k l = grind (arith, nat_tests)

pub released : (m : Flight) (k f : ℕ) → f < release_at m k → (f ≤ k) × (0 < m.frames)
released m k f l = let a : f ≤ k = grind (arith, nat_tests) in let b : 0 < m.frames = grind (arith, nat_tests) in (a, b)

module _ (m : Flight) (halt : Option UnitHalt) (s : Pair) (y : Flies m) (k : PairKept m halt s) where
  -- Unless unit `u` has halted, the number of frames in which the other unit has met `u` is at most the number of
  -- frames in which `u` has been ready.
  pub met_other : (u : ℕ) → u < 2 → HasMet m (s.unit (other_unit u)) (s.unit u)
  met_other u l = two (λ v. HasMet m (s.unit (other_unit v)) (s.unit v)) (k.met 1 (omega arith)) (k.met 0 (omega arith)) u l

  pub bounded : (p : ℕ) → p < m.procs → (f : ℕ) → ((u : ℕ) → u < 2 → (s.unit u).frame ≤ f) → frames_past (s.proc p).place ≤ suc f
  bounded p l f all = let r = k.reached p l in let a = all r.unit r.there in let b = r.high in omega (arith, a, b)

  -- Until a unit that has not halted is ready, no unit is ahead of it.
  pub none_ahead : (u : ℕ) → u < 2 → (s.unit u).stopped ≡ None → (s.unit u).step ≤ m.procs + 20 → (v : ℕ) → v < 2 → (s.unit v).frame ≤ (s.unit u).frame
  none_ahead u l going low v lv =
      let a = met_other u l going in
      let b = meetings_least m (s.unit (other_unit u)).frame (s.unit (other_unit u)).step in
      let c = readies_low m (s.unit u).frame (s.unit u).step low in
      both u l (λ (w : ℕ). (s.unit w).frame ≤ (s.unit u).frame) (omega arith) (omega (arith, a, b, c)) v lv

  -- The mark and the image of processor `p` are its mark and image after the frame of unit `u`, and the frame that
  -- `p` makes next is later.
  pub record Told (u p : ℕ) : Type 0 where
    pub ahead : (f : ℕ) → frame_to_make (m.restart p) (s.proc p).place ≡ Some f → (s.unit u).frame < f
    pub mark : (s.proc p).mark ≡ mark_before m p (suc (s.unit u).frame)
    pub image : (i : ℕ) → i < m.width → (s.proc p).bank ((s.proc p).mark % 2) i ≡ word_in (image_before m p (suc (s.unit u).frame)) i

  pub told : (u : ℕ) → u < 2 → (s.unit u).stopped ≡ None → (p : ℕ) → p < m.procs → (s.unit u).step ≡ p → may_note m p (s.unit u).frame (s.proc p).end ≡ true → Told u p
  told u l going p lp at may =
      let o : IsProcessor m p (s.proc p) = k.processors p lp in
      let high = bounded p lp (s.unit u).frame (none_ahead u l going (omega arith)) in
      let here : IsPlaced m (s.unit u).frame p p (s.proc p).place = placed_by m (s.unit u).frame p p (s.proc p).place o.place (λ f e. ((k.ahead u p l lp f e).0, λ g. absurd (omega arith))) high in
      let seen = noted_by m (s.unit u).frame p p (s.proc p).end (s.proc p).place y here o.end may in
      let later : (f : ℕ) → frame_to_make (m.restart p) (s.proc p).place ≡ Some f → (s.unit u).frame < f = λ f e. noted_ahead m (s.unit u).frame p f (s.proc p).place seen e in
      let there : IsPlaced m (s.unit u).frame (suc p) p (s.proc p).place = placed_by m (s.unit u).frame (suc p) p (s.proc p).place o.place (λ f e. ((k.ahead u p l lp f e).0, λ g. later f e)) high in
      let g : Gives m p (s.unit u).frame (s.proc p).place = gives m p (s.unit u).frame (suc p) (s.proc p).place y (omega arith) there in
      let mark : (s.proc p).mark ≡ mark_before m p (suc (s.unit u).frame) = o.mark ∙ g.mark in
      let low = side_le m p (suc (s.unit u).frame) in record {
        ahead = later;
        mark = mark;
        image = λ i li. rw (side_of m p (suc (s.unit u).frame) (s.proc p).mark mark) (o.bank (side m p (suc (s.unit u).frame)) i (omega arith) li ∙ g.held i li);
      }

  -- Frame `f` is the frame of unit `u`. A processor that makes this frame by the words of `u` reads the kernel image
  -- and the images of the frame.
  pub record Read (u f : ℕ) : Type 0 where
    pub frame : f ≡ (s.unit u).frame
    pub some : 0 < m.frames
    pub kernel : (i : ℕ) → i < 20 → (s.unit u).kernel i ≡ word_in (m.kernel_image f) i
    pub picked : (q : ℕ) → q < m.procs → pick (s.proc q).mark f ≡ side m q f
    pub held : (q i : ℕ) → q < m.procs → i < m.width → (s.proc q).bank (side m q f) i ≡ word_in (image_before m q f) i

  pub read : (p u f : ℕ) → p < m.procs → u < 2 → frame_to_make (m.restart p) (s.proc p).place ≡ Some f → f < (s.unit u).release → Read u f
  read p u f lp lu e low =
      let x : IsUnit m halt u (s.unit u) = k.units u lu in
      let a = released m (s.unit u).frame f (subst (λ (r : ℕ). f < r) x.release low) in
      let a0 = a.0 in
      let b = (k.ahead u p lu lp f e).0 in
      let same : f ≡ (s.unit u).frame = omega arith in
      let early : (s.unit u).step ≤ p = not_noted (dec_le (s.unit u).step p) same in record {
        frame = same;
        some = a.1;
        kernel = λ i l. x.kernel i l ∙ kernel_zero m (s.unit u).frame (s.unit u).step i (omega arith) ∙ ap (λ (g : ℕ). word_in (m.kernel_image g) i) (sym same);
        picked = λ q l. let o : IsProcessor m q (s.proc q) = k.processors q l in ap (λ (w : ℕ). pick w f) o.mark ∙ (shown q l same).picked;
        held = λ q i l h. let o : IsProcessor m q (s.proc q) = k.processors q l in let c = side_le m q f in o.bank (side m q f) i (omega arith) h ∙ (shown q l same).held i h;
      }
    where
      not_noted : Dec ((s.unit u).step ≤ p) → f ≡ (s.unit u).frame → (s.unit u).step ≤ p
      not_noted (yes d) same = d
      not_noted (no d) same = let g = (k.ahead u p lu lp f e).1 (omega arith) in absurd (omega arith)

      shown : (q : ℕ) → q < m.procs → f ≡ (s.unit u).frame → Shows m q f (s.proc q).place
      shown q l same =
          let o : IsProcessor m q (s.proc q) = k.processors q l in
          shows m q f 0 (s.proc q).place y (placed_by m f 0 q (s.proc q).place o.place
          (λ g i. (subst (λ (z : ℕ). z ≤ g) (sym same) (k.ahead u q lu l g i).0, λ z. absurd (omega arith)))
          (bounded q l f (λ v lv. (k.ahead v p lv lp f e).0)))
