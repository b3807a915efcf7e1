-- Proof that a reader finds the words and images of its frame, and that a note finds the mark and the image after the
-- frame.
use Rattle.std.proofs.Common.{◌≡◌, ℕ, suc, ◌+◌, ◌-◌, ◌*◌, ◌/◌, ◌%◌, ◌<◌, ◌≤◌, Bool, true, false, refl, sym, ap, subst, ◌∙◌, arith}
use Rattle.std.proofs.lemmas.Bool.Decides.{nat_tests}
use native.Mathlib.Decide.{dec_le}
use Rattle.fail_stop.specs.Flights.{Flight, Flies, word_in, image_before, is_committed, mark_before, last_commit, side, bank_before, stores_in}
use Rattle.fail_stop.specs.Events.{Place, At, Halted, Places, Word, KernelWord, MarkWord, BankWord}
use Rattle.fail_stop.specs.Kept.{Kept, IsPlaced, Running, Stopped, mark_at, bank_at, stores_made}
use Rattle.bank_words.specs.Marks.{pick}
use Rattle.fail_stop.proofs.FrameSteps.{last_yes, last_no, side_yes, side_no}
use Rattle.fail_stop.proofs.FrameFacts.{side_le, last_le, laid_side, bank_suc, bank_side, halted_still, Same}
use Rattle.fail_stop.proofs.ProcessorEvents.{unflipped, flipped, made_none, bank_begin, later_not}
use Rattle.fail_stop.proofs.KernelEvents.{kernel_zero}

pick_low : (c s f : ℕ) → s ≤ 1 → c ≤ f → pick (2 * c + s) f ≡ s
pick_low c s f h l = let half : (2 * c + s) / 2 ≡ c = omega arith in let rest : (2 * c + s) % 2 ≡ s = omega arith in grind (arith, nat_tests)

pick_high : (c s f : ℕ) → s ≤ 1 → f < c → pick (2 * c + s) f ≡ 1 - s
pick_high c s f h l = let half : (2 * c + s) / 2 ≡ c = omega arith in let rest : (2 * c + s) % 2 ≡ s = omega arith in grind (arith, nat_tests)

pick_now : (m : Flight) (q k : ℕ) → pick (mark_before m q k) k ≡ side m q k
pick_now m q k = pick_low (last_commit m q k) (side m q k) k (side_le m q k) (last_le m q k)

pick_next_at : (m : Flight) (q k : ℕ) (b : Bool) → is_committed m q k ≡ b → pick (mark_before m q (suc k)) k ≡ side m q k
pick_next_at m q k true c =
    let low = side_le m q k in
    let up : side m q (suc k) ≤ 1 = side_le m q (suc k) in
    let s = side_yes m q k c in
    let a = last_yes m q k c in
    pick_high (last_commit m q (suc k)) (side m q (suc k)) k up (omega arith) ∙ omega arith
pick_next_at m q k false c = ap (λ (x : ℕ). pick x k) (rw (last_no m q k c, side_no m q k c) refl) ∙ pick_now m q k

pick_next : (m : Flight) (q k : ℕ) → pick (mark_before m q (suc k)) k ≡ side m q k
pick_next m q k = pick_next_at m q k (is_committed m q k) refl

-- The bank that is marked at the start of frame `f` does not change during the frame.
untouched : (m : Flight) (q f n i : ℕ) → i < m.width → bank_at m q (At f n) (side m q f) i ≡ word_in (image_before m q f) i
untouched m q f n i h = laid_side m q f (stores_made m n) (side m q f) i (bank_before m q f (side m q f) i) refl ∙ bank_side m q f i h

untouched_next : (m : Flight) (q f i : ℕ) → i < m.width → bank_before m q (suc f) (side m q f) i ≡ word_in (image_before m q f) i
untouched_next m q f i h = bank_suc m q f (side m q f) i ∙ laid_side m q f (stores_in m q f) (side m q f) i (bank_before m q f (side m q f) i) refl ∙ bank_side m q f i h

-- A reader in frame `k` finds the image of processor `q` as of the start of frame `k` if `q` is at place `x`.
pub record Shows (m : Flight) (q k : ℕ) (x : Place) : Type 0 where
  pub picked : pick (mark_at m q x) k ≡ side m q k
  pub held : (i : ℕ) → i < m.width → bank_at m q x (side m q k) i ≡ word_in (image_before m q k) i

shows_now : (m : Flight) (q k n : ℕ) → Dec (n ≤ m.procs + 1 + m.width) → Shows m q k (At k n)
shows_now m q k n (yes d) = record { picked = ap (λ (x : ℕ). pick x k) (unflipped m q k n d) ∙ pick_now m q k; held = untouched m q k n }
shows_now m q k n (no d) = record { picked = ap (λ (x : ℕ). pick x k) (flipped m q k n (omega arith)) ∙ pick_next m q k; held = untouched m q k n }

shows_next : (m : Flight) (q k : ℕ) → Shows m q k (At (suc k) 0)
shows_next m q k = record {
  picked = ap (λ (x : ℕ). pick x k) (unflipped m q (suc k) 0 (omega arith)) ∙ pick_next m q k;
  held = λ i h. bank_begin m q (suc k) 0 (side m q k) i (made_none m 0 (omega arith)) ∙ untouched_next m q k i h;
}

shows_halted : (m : Flight) (q k j h : ℕ) → Flies m → Stopped m k j q h → Dec (k ≤ h) → Shows m q k (Halted h)
shows_halted m q k j h y s (yes d) = let e : h ≡ k = omega (arith, s.high) in subst (λ (x : ℕ). Shows m q k (Halted x)) (sym e) (record { picked = pick_next m q k; held = untouched_next m q k })
shows_halted m q k j h y s (no d) =
    let same : Same m q (suc h) k = halted_still m q h s.step k y s.up s.halts (omega arith) s.later in record {
      picked = ap (λ (x : ℕ). pick x k) (rw (same.lasts, same.sides) refl) ∙ pick_now m q k;
      held = λ i l. sym (same.banks (side m q k) i) ∙ bank_side m q k i l;
    }

shows_at : (m : Flight) (q k j f n : ℕ) → Running m k j q f n → Dec (f ≤ k) → Shows m q k (At f n)
shows_at m q k j f n r (yes d) = let e : f ≡ k = omega (arith, r.low) in subst (λ (x : ℕ). Shows m q k (At x n)) (sym e) (shows_now m q k n (dec_le n (m.procs + 1 + m.width)))
shows_at m q k j f n r (no d) = let e : f ≡ suc k = omega (arith, r.high) in let z : n ≡ 0 = r.fresh (omega arith) in rw (e, z) (shows_next m q k)

pub shows : (m : Flight) (q k j : ℕ) (x : Place) → Flies m → IsPlaced m k j q x → Shows m q k x
shows m q k j (At f n) y r = shows_at m q k j f n r (dec_le f k)
shows m q k j (Halted h) y s = shows_halted m q k j h y s (dec_le k h)

-- If processor `p` is at place `x`, its mark and its marked bank are those after frame `k`.
pub record Gives (m : Flight) (p k : ℕ) (x : Place) : Type 0 where
  pub mark : mark_at m p x ≡ mark_before m p (suc k)
  pub held : (i : ℕ) → i < m.width → bank_at m p x (side m p (suc k)) i ≡ word_in (image_before m p (suc k)) i

pub gives : (m : Flight) (p k j : ℕ) (x : Place) → Flies m → p < j → IsPlaced m k j p x → Gives m p k x
gives m p k j (At f n) y l r =
    let late : k < f = r.noted l in
    let e : f ≡ suc k = omega (arith, r.high) in let z : n ≡ 0 = r.fresh late in
    rw (e, z) (record { mark = unflipped m p (suc k) 0 (omega arith); held = λ i h. untouched m p (suc k) 0 i h })
gives m p k j (Halted h) y l s =
    let same : Same m p (suc h) (suc k) = halted_still m p h s.step (suc k) y s.up s.halts (omega (arith, s.high)) (s.noted l) in record {
      mark = sym (rw (same.lasts, same.sides) refl);
      held = λ i g. sym (same.banks (side m p (suc k)) i) ∙ bank_side m p (suc k) i g;
    }

module _ (m : Flight) (at : Places) (words : Word → ℕ) (y : Flies m) (k : Kept m at words) where
  -- A processor that has made a step in a frame is in the kernel's frame.
  reader : (p f n : ℕ) → p < m.procs → at.proc p ≡ At f n → 0 < n → f ≡ at.frame
  reader p f n l here z =
      let r : Running m at.frame at.step p f n = rw here at (k.placed p l) in
      let a = later_not at.frame f n z r.fresh in omega (arith, r.low)

  pub picks : (p f n q : ℕ) → p < m.procs → at.proc p ≡ At f n → 0 < n → q < m.procs → pick (words (MarkWord q)) f ≡ side m q f
  picks p f n q l here z lq =
      let e = reader p f n l here z in
      let s : Shows m q at.frame (at.proc q) = shows m q at.frame at.step (at.proc q) y (k.placed q lq) in
      rw (e, k.words_are (MarkWord q) lq) s.picked

  pub holds : (p f n q i : ℕ) → p < m.procs → at.proc p ≡ At f n → 0 < n → q < m.procs → i < m.width → words (BankWord q (side m q f) i) ≡ word_in (image_before m q f) i
  holds p f n q i l here z lq li =
      let e = reader p f n l here z in
      let s : Shows m q at.frame (at.proc q) = shows m q at.frame at.step (at.proc q) y (k.placed q lq) in
      let b = side_le m q f in
      k.words_are (BankWord q (side m q f) i) (lq, omega arith, li) ∙ rw e (s.held i li)

  pub kernel_reads : (p f n i : ℕ) → p < m.procs → at.proc p ≡ At f n → 0 < n → i < 20 → words (KernelWord i) ≡ word_in (m.kernel_image f) i
  kernel_reads p f n i l here z li =
      let e = reader p f n l here z in
      let r : Running m at.frame at.step p f n = rw here at (k.placed p l) in
      let early : at.step ≤ p = not_noted p f n r e (dec_le at.step p) in
      k.words_are (KernelWord i) li ∙ kernel_zero m at.frame at.step i (omega arith) ∙ rw e refl
    where
      not_noted : (p f n : ℕ) → Running m at.frame at.step p f n → f ≡ at.frame → Dec (at.step ≤ p) → at.step ≤ p
      not_noted p f n r e (yes d) = d
      not_noted p f n r e (no d) = let b : at.frame < f = r.noted (omega arith) in absurd (omega arith)

  pub note_mark : (p : ℕ) → p < m.procs → p < at.step → words (MarkWord p) ≡ mark_before m p (suc at.frame)
  note_mark p l g = let s : Gives m p at.frame (at.proc p) = gives m p at.frame at.step (at.proc p) y g (k.placed p l) in k.words_are (MarkWord p) l ∙ s.mark

  pub note_bank : (p i : ℕ) → p < m.procs → p < at.step → i < m.width → words (BankWord p (side m p (suc at.frame)) i) ≡ word_in (image_before m p (suc at.frame)) i
  note_bank p i l g li =
      let s : Gives m p at.frame (at.proc p) = gives m p at.frame at.step (at.proc p) y g (k.placed p l) in
      let b = side_le m p (suc at.frame) in
      k.words_are (BankWord p (side m p (suc at.frame)) i) (l, omega arith, li) ∙ s.held i li
