-- Each event of the kernel preserves the invariant `Kept`.
use Rattle.std.proofs.Common.{◌≡◌, ◌⊎◌, ℕ, suc, ◌+◌, ◌*◌, ◌/◌, ◌%◌, ◌<◌, ◌≤◌, Bool, true, false, not, ◌&&◌, ◌||◌, refl, sym, ◌∙◌, inl, inr, arith}
use Rattle.std.specs.Prelude.{Option, Some, None, nat_eq, if◌then◌else◌}
use Rattle.std.proofs.lemmas.Bool.Decides.{nat_tests}
use native.Mathlib.Decide.{dec_le, ℕ_discrete}
use Rattle.fail_stop.specs.Flights.{Flight, Flies, word_in, back_by, end_before}
use Rattle.bank_words.specs.declared.events.Event.{Event}
use Rattle.bank_words.specs.declared.events.Event.TheVariants.{KNote, KStore, Release}
use Rattle.scram_types.specs.Lookups.{proc_id}
use Rattle.fail_stop.specs.Events.{Place, At, Halted, Places, Word, ReleaseWord, KernelWord, MarkWord, EndWord, BankWord, Happens, IsStored, is_actor, writes, written, may_note, frame_after, step_after}
use Rattle.fail_stop.specs.Kept.{Kept, IsKernel, IsPlaced, Running, Stopped, end_at, stored_word, release_at, kernel_at}
use Rattle.fail_stop.proofs.FrameFacts.{end_le, end_back}

pub by_kernel : (m : Flight) (at : Places) (words : Word → ℕ) (e : Event) (at2 : Places) (words2 : Word → ℕ)
    → Happens m at words e at2 words2 → Kept m at words
    → ((q : ℕ) → is_actor e q ≡ false) → IsKernel m (frame_after at e) (step_after at e)
    → ((q : ℕ) → written (writes m at words e) words (MarkWord q) ≡ words (MarkWord q))
    → ((q : ℕ) → written (writes m at words e) words (EndWord q) ≡ words (EndWord q))
    → ((q b i : ℕ) → written (writes m at words e) words (BankWord q b i) ≡ words (BankWord q b i))
    → (written (writes m at words e) words ReleaseWord ≡ release_at m (frame_after at e))
    → ((i : ℕ) → i < 20 → written (writes m at words e) words (KernelWord i) ≡ kernel_at m (frame_after at e) (step_after at e) i)
    → ((q : ℕ) → q < m.procs → IsPlaced m at.frame at.step q (at.proc q) → IsPlaced m (frame_after at e) (step_after at e) q (at.proc q))
    → Kept m at2 words2
by_kernel m at words e at2 words2 h k a kn mk en bk rl kr pl =
    let same : (q : ℕ) → at2.proc q ≡ at.proc q = λ q. h.proc q ∙ rw (a q) refl in record {
      kernel = rw (h.frame, h.step) kn;
      placed = λ q l. rw (same q, h.frame, h.step) (pl q l (k.placed q l));
      words_are = λ w l. kernel_word w l same;
    }
  where
    kernel_word : (w : Word) → IsStored m w → ((q : ℕ) → at2.proc q ≡ at.proc q) → words2 w ≡ stored_word m at2 w
    kernel_word ReleaseWord l same = rw h.frame (h.words_are ReleaseWord l ∙ rl)
    kernel_word (KernelWord i) l same = rw (h.frame, h.step) (h.words_are (KernelWord i) l ∙ kr i l)
    kernel_word (MarkWord q) l same = rw (same q) (h.words_are (MarkWord q) l ∙ mk q ∙ k.words_are (MarkWord q) l)
    kernel_word (EndWord q) l same = rw (same q) (h.words_are (EndWord q) l ∙ en q ∙ k.words_are (EndWord q) l)
    kernel_word (BankWord q b i) l same = rw (same q) (h.words_are (BankWord q b i) l ∙ bk q b i ∙ k.words_are (BankWord q b i) l)

-- The kernel may have noted processor `p` in frame `k` if `p` is at this place. The processor is past the frame, or
-- has halted and does not restart up to that frame.
abbrev pub Noted : Flight → ℕ → ℕ → Place → Type 0
Noted m k p (At f n) = k < f
Noted m k p (Halted h) = (r : ℕ) → m.restart p ≡ Some r → h < r → k < r

may_either : (x b : Bool) (e a : ℕ) → (nat_eq e a || (nat_eq (e % 2) 1 && not b)) ≡ true → (e ≡ a) ⊎ ((e ≡ 2 * (e / 2) + 1) × (b ≡ false))
may_either x true e a h = inl (grind (arith, nat_tests))
may_either x false e a h = may_odd e a (ℕ_discrete e a) h
  where
    may_odd : (e a : ℕ) → Dec (e ≡ a) → (nat_eq e a || (nat_eq (e % 2) 1 && true)) ≡ true → (e ≡ a) ⊎ ((e ≡ 2 * (e / 2) + 1) × (false ≡ false))
    may_odd e a (yes d) h = inl d
    may_odd e a (no d) h = inr (grind (arith, nat_tests), refl)

back_late : (o : Option ℕ) (h k r : ℕ) → back_by o h k ≡ false → o ≡ Some r → h < r → k < r
back_late None h k r b e l = cc
back_late (Some s) h k r b e l = let same : s ≡ r = cc in grind (arith, nat_tests)

noted_running : (m : Flight) (k j p f n e : ℕ) → Flies m → Running m k j p f n → e ≡ end_before m p f → (e ≡ 2 * suc k) ⊎ ((e ≡ 2 * (e / 2) + 1) × (back_by (m.restart p) (e / 2) k ≡ false)) → Dec (f ≤ k) → k < f
noted_running m k j p f n e y r w c (no d) = omega arith
noted_running m k j p f n e y r w (inl c) (yes d) = let b = end_le m p f in absurd (omega arith)
noted_running m k j p f n e y r w (inr c) (yes d) =
    let same : f ≡ k = omega (arith, r.low) in
    let found : back_by (m.restart p) (e / 2) f ≡ true = end_back m p f (e / 2) y r.up (sym w ∙ c.0) in
    let lost : back_by (m.restart p) (e / 2) f ≡ false = rw same c.1 in
    cc

noted_halted : (m : Flight) (k p h e : ℕ) → e ≡ 2 * h + 1 → (e ≡ 2 * suc k) ⊎ ((e ≡ 2 * (e / 2) + 1) × (back_by (m.restart p) (e / 2) k ≡ false)) → (r : ℕ) → m.restart p ≡ Some r → h < r → k < r
noted_halted m k p h e w (inl c) r i l = absurd (omega arith)
noted_halted m k p h e w (inr c) r i l =
    let half : e / 2 ≡ h = omega arith in
    back_late (m.restart p) h k r (rw half at c.1) i l

pub halted_end : (m : Flight) (k j p h : ℕ) → Stopped m k j p h → end_before m p (suc h) ≡ 2 * h + 1
unfolding end_before
halted_end m k j p h s = rw (s.up, s.halts) refl

pub noted_by : (m : Flight) (k j p e : ℕ) (x : Place) → Flies m → IsPlaced m k j p x → e ≡ end_at m p x → may_note m p k e ≡ true → Noted m k p x
noted_by m k j p e (At f n) y r w c = noted_running m k j p f n e y r w (may_either true (back_by (m.restart p) (e / 2) k) e (2 * suc k) c) (dec_le f k)
noted_by m k j p e (Halted h) y s w c = noted_halted m k p h e (w ∙ halted_end m k j p h s) (may_either true (back_by (m.restart p) (e / 2) k) e (2 * suc k) c)

note_place : (m : Flight) (k j q : ℕ) (x : Place) → IsPlaced m k j q x → (q ≡ j → Noted m k q x) → IsPlaced m k (suc j) q x
note_place m k j q (At f n) r c = record { up = r.up; low = r.low; high = r.high; fresh = r.fresh; within = r.within; noted = λ l. noted_more q j (k < f) r.noted c l (ℕ_discrete q j); done = r.done }
  where
    noted_more : (q j : ℕ) (P : Type 0) → (q < j → P) → (q ≡ j → P) → q < suc j → Dec (q ≡ j) → P
    noted_more q j P a b l (yes d) = b d
    noted_more q j P a b l (no d) = a (omega arith)
note_place m k j q (Halted h) s c = record { step = s.step; up = s.up; halts = s.halts; high = s.high; later = s.later; noted = λ l. noted_more2 q j ((r : ℕ) → m.restart q ≡ Some r → h < r → k < r) s.noted c l (ℕ_discrete q j) }
  where
    noted_more2 : (q j : ℕ) (P : Type 0) → (q < j → P) → (q ≡ j → P) → q < suc j → Dec (q ≡ j) → P
    noted_more2 q j P a b l (yes d) = b d
    noted_more2 q j P a b l (no d) = a (omega arith)

-- If the kernel has noted processor `q`, the place of `q` still satisfies `IsPlaced` after a further note.
past_place : (m : Flight) (k j q : ℕ) (x : Place) → q < j → IsPlaced m k j q x → IsPlaced m k (suc j) q x
past_place m k j q (At f n) l r = record { up = r.up; low = r.low; high = r.high; fresh = r.fresh; within = r.within; noted = λ g. r.noted l; done = r.done }
past_place m k j q (Halted h) l s = record { step = s.step; up = s.up; halts = s.halts; high = s.high; later = s.later; noted = λ g. s.noted l }

next_place : (m : Flight) (k j q : ℕ) (x : Place) → q < j → IsPlaced m k j q x → IsPlaced m (suc k) 0 q x
next_place m k j q (At f n) l r = let b : k < f = r.noted l in record { up = r.up; low = b; high = omega (arith, r.high); fresh = λ g. absurd (omega (arith, r.high)); within = r.within; noted = λ g. absurd (omega arith); done = λ g. absurd (omega (arith, r.high)) }
next_place m k j q (Halted h) l s = record { step = s.step; up = s.up; halts = s.halts; high = omega (arith, s.high); later = s.noted l; noted = λ g. absurd (omega arith) }

pub kernel_zero : (m : Flight) (k j i : ℕ) → j ≤ m.procs → kernel_at m k j i ≡ word_in (m.kernel_image k) i
kernel_zero m k j i h = grind (arith, nat_tests)

pub kernel_full : (m : Flight) (k j i : ℕ) → j ≡ m.procs + 20 → i < 20 → kernel_at m k j i ≡ word_in (m.kernel_image (suc k)) i
kernel_full m k j i h l = grind (arith, nat_tests)

kernel_store : (m : Flight) (k j i d w : ℕ) → j ≡ m.procs + i → w ≡ kernel_at m k j d → (if nat_eq i d then word_in (m.kernel_image (suc k)) d else w) ≡ kernel_at m k (suc j) d
kernel_store m k j i d w h e = grind (arith, nat_tests)

kernel_word_same : (m : Flight) (k i d w : ℕ) → (if nat_eq i d then word_in (m.kernel_image (suc k)) i else w) ≡ (if nat_eq i d then word_in (m.kernel_image (suc k)) d else w)
kernel_word_same m k i d w = grind (arith, nat_tests)

release_more : (m : Flight) (k : ℕ) → suc k < m.frames → release_at m (suc k) ≡ suc (suc k)
release_more m k h = grind (arith, nat_tests)

module _ (m : Flight) (at : Places) (words : Word → ℕ) (at2 : Places) (words2 : Word → ℕ) (k : Kept m at words) where
  pub note_keeps : (p : ℕ) → Flies m → Happens m at words (KNote (proc_id p)) at2 words2 → p < m.procs → at.step ≡ p → may_note m p at.frame (words (EndWord p)) ≡ true → Kept m at2 words2
  note_keeps p y h l s c = by_kernel m at words (KNote (proc_id p)) at2 words2 h k (λ q. refl) (record { below = k.kernel.below; steps = omega arith; ending = λ g. absurd (omega arith) }) (λ q. refl) (λ q. refl) (λ q b i. refl)
      (k.words_are ReleaseWord tt)
      (λ i g. k.words_are (KernelWord i) g ∙ kernel_zero m at.frame at.step i (omega arith) ∙ sym (kernel_zero m at.frame (suc at.step) i (omega arith)))
      (λ q g r. note_place m at.frame at.step q (at.proc q) r (λ e. let same : q ≡ p = e ∙ s in rw same (noted_by m at.frame at.step p (words (EndWord p)) (at.proc p) y (k.placed p l) (k.words_are (EndWord p) l) c)))

  pub kstore_keeps : (i : ℕ) → Happens m at words (KStore i) at2 words2 → at.step ≡ m.procs + i → i < 20 → suc at.frame < m.frames → Kept m at2 words2
  kstore_keeps i h s b f = by_kernel m at words (KStore i) at2 words2 h k (λ q. refl) (record { below = k.kernel.below; steps = omega arith; ending = λ g. f }) (λ q. refl) (λ q. refl) (λ q b i. refl)
      (k.words_are ReleaseWord tt)
      (λ d g. kernel_word_same m at.frame i d (words (KernelWord d)) ∙ kernel_store m at.frame at.step i d (words (KernelWord d)) s (k.words_are (KernelWord d) g))
      (λ q g r. past_place m at.frame at.step q (at.proc q) (omega arith) r)

  pub release_keeps : Happens m at words Release at2 words2 → at.step ≡ m.procs + 20 → suc at.frame < m.frames → Kept m at2 words2
  release_keeps h s f = by_kernel m at words Release at2 words2 h k (λ q. refl) (record { below = λ g. f; steps = omega arith; ending = λ g. absurd (omega arith) }) (λ q. refl) (λ q. refl) (λ q b i. refl)
      (sym (release_more m at.frame f))
      (λ d g. k.words_are (KernelWord d) g ∙ kernel_full m at.frame at.step d s g ∙ sym (kernel_zero m (suc at.frame) 0 d (omega arith)))
      (λ q g r. next_place m at.frame at.step q (at.proc q) (omega arith) r)
