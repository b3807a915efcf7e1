-- Lemmas that derive the facts of `IsConsistent` from the invariant `Kept`.
use Rattle.std.proofs.Common.{◌≡◌, ◌⊎◌, ℕ, suc, ◌+◌, ◌-◌, ◌*◌, ◌%◌, ◌<◌, ◌≤◌, Bool, true, false, refl, sym, ap, ◌∙◌, inl, inr, arith}
use Rattle.std.specs.Prelude.{Option, Some, None, nat_eq, if◌then◌else◌}
use Rattle.std.proofs.lemmas.Bool.Decides.{nat_tests}
use native.Mathlib.Decide.{dec_le}
use Rattle.fail_stop.specs.Flights.{Flight, Flies, word_in, image_before, is_committed, mark_before, last_commit, commit_count, side, laid, bank_before}
use Rattle.fail_stop.specs.Events.{Place, At, Halted, Places, Word, ReleaseWord, KernelWord, MarkWord, BankWord}
use Rattle.fail_stop.specs.Kept.{Kept, IsPlaced, Running, Stopped, last_step, mark_at, bank_at, stores_made, is_flipped, kernel_at}
use Rattle.bank_words.specs.Marks.{pick}
use Rattle.fail_stop.specs.Consistency.{IsConsistent, marked, Reads, unmarked_bank}
use Rattle.fail_stop.proofs.FrameFacts.{side_le, side_count, img_last, laid_new, laid_past, bank_side, laid_side, stores_commits}
use Rattle.fail_stop.proofs.ProcessorEvents.{made_all, bank_end}
use Rattle.fail_stop.proofs.Reading.{picks, holds, kernel_reads}

marked_low : (m : Flight) (f n : ℕ) → n ≤ m.procs + 1 + m.width → marked m (At f n) ≡ f
marked_low m f n h = grind (arith, nat_tests)

marked_high : (m : Flight) (f n : ℕ) → m.procs + 1 + m.width < n → marked m (At f n) ≡ suc f
marked_high m f n h = grind (arith, nat_tests)

pub choose_in : (m : Flight) (p f : ℕ) (b : Bool) → (if b then mark_before m p (suc f) else mark_before m p f) ≡ mark_before m p (if b then suc f else f)
choose_in m p f true = refl
choose_in m p f false = refl

mark_marked : (m : Flight) (p : ℕ) (x : Place) → mark_at m p x ≡ 2 * last_commit m p (marked m x) + commit_count m p (marked m x) % 2
mark_marked m p (At f n) = choose_in m p f (is_flipped m n) ∙ ap (λ (s : ℕ). 2 * last_commit m p (marked m (At f n)) + s) (side_count m p (marked m (At f n)))
mark_marked m p (Halted h) = ap (λ (s : ℕ). 2 * last_commit m p (suc h) + s) (side_count m p (suc h))

commits_flipped : (m : Flight) (p f n : ℕ) (o : Option ℕ) → m.halt p f ≡ o → m.up p f ≡ true → m.procs + 1 + m.width < n → n ≤ last_step m o → is_committed m p f ≡ true
unfolding is_committed
commits_flipped m p f n None e u c l = rw (u, e) refl
commits_flipped m p f n (Some s) e u c l = rw (u, e) (grind (arith, nat_tests))

-- After the flip of a frame, each bank holds the words that it holds at the end of the frame.
bank_flipped : (m : Flight) (k j p f n b i : ℕ) → Running m k j p f n → m.procs + 1 + m.width < n → bank_at m p (At f n) b i ≡ bank_before m p (suc f) b i
bank_flipped m k j p f n b i r h = bank_end m p f n b i (made_all m n (omega arith) ∙ sym (stores_commits m p f (commits_flipped m p f n (m.halt p f) refl r.up h r.within)))

held_running : (m : Flight) (k j p f n i : ℕ) → Running m k j p f n → i < m.width → Dec (n ≤ m.procs + 1 + m.width) → bank_at m p (At f n) (side m p (marked m (At f n))) i ≡ word_in (image_before m p (marked m (At f n))) i
held_running m k j p f n i r l (yes d) = rw (marked_low m f n d) (laid_side m p f (stores_made m n) (side m p f) i (bank_before m p f (side m p f) i) refl ∙ bank_side m p f i l)
held_running m k j p f n i r l (no d) = rw (marked_high m f n (omega arith)) (bank_flipped m k j p f n (side m p (suc f)) i r (omega arith) ∙ bank_side m p (suc f) i l)

held : (m : Flight) (k j p : ℕ) (x : Place) (i : ℕ) → IsPlaced m k j p x → i < m.width → bank_at m p x (side m p (marked m x)) i ≡ word_in (image_before m p (marked m x)) i
held m k j p (At f n) i r l = held_running m k j p f n i r l (dec_le n (m.procs + 1 + m.width))
held m k j p (Halted h) i r l = bank_side m p (suc h) i l

flipped_bank : (m : Flight) (k j p : ℕ) (x : Place) (b i : ℕ) → IsPlaced m k j p x → ((f n : ℕ) → x ≡ At f n → m.procs + 1 + m.width < n) → bank_at m p x b i ≡ bank_before m p (marked m x) b i
flipped_bank m k j p (At f n) b i r h = let g : m.procs + 1 + m.width < n = h f n refl in bank_flipped m k j p f n b i r g ∙ ap (λ (z : ℕ). bank_before m p z b i) (sym (marked_high m f n g))
flipped_bank m k j p (Halted h) b i r g = refl

run_frame : (k f n : ℕ) → k ≤ f → f ≤ suc k → (k < f → n ≡ 0) → Dec (f ≤ k) → (f ≡ k) ⊎ ((f ≡ suc k) × (n ≡ 0))
run_frame k f n a b c (yes d) = inl (omega arith)
run_frame k f n a b c (no d) = inr (omega arith, c (omega arith))

module _ (m : Flight) (at : Places) (words : Word → ℕ) (y : Flies m) (k : Kept m at words) where
  runs : (p f n : ℕ) → p < m.procs → at.proc p ≡ At f n → Running m at.frame at.step p f n
  runs p f n l here = rw here at (k.placed p l)

  stops : (p h : ℕ) → p < m.procs → at.proc p ≡ Halted h → Stopped m at.frame at.step p h
  stops p h l here = rw here at (k.placed p l)

  bank_word : (p b i : ℕ) → p < m.procs → b < 2 → i < m.width → words (BankWord p b i) ≡ bank_at m p (at.proc p) b i
  bank_word p b i l lb li = k.words_are (BankWord p b i) (l, lb, li)

  -- The parity of the number of commits is the number of the marked bank.
  at_side : (p i : ℕ) → p < m.procs → i < m.width → words (BankWord p (commit_count m p (marked m (at.proc p)) % 2) i) ≡ word_in (image_before m p (last_commit m p (marked m (at.proc p)))) i
  at_side p i l li =
      let e : commit_count m p (marked m (at.proc p)) % 2 ≡ side m p (marked m (at.proc p)) = sym (side_count m p (marked m (at.proc p))) in
      let g : image_before m p (last_commit m p (marked m (at.proc p))) ≡ image_before m p (marked m (at.proc p)) = sym (img_last m p (marked m (at.proc p))) in
      let b = side_le m p (marked m (at.proc p)) in
      rw (e, g) (bank_word p (side m p (marked m (at.proc p))) i l (omega arith) li ∙ held m at.frame at.step p (at.proc p) i (k.placed p l) li)

  unmarked_bank_is : (p f n : ℕ) → at.proc p ≡ At f n → n ≤ m.procs + 1 + m.width → unmarked_bank m at p ≡ 1 - side m p f
  unmarked_bank_is p f n here h = ap (λ (x : Place). 1 - commit_count m p (marked m x) % 2) here ∙ ap (λ (z : ℕ). 1 - commit_count m p z % 2) (marked_low m f n h) ∙ ap (λ (z : ℕ). 1 - z) (sym (side_count m p f))

  bank_in : (p f n b i : ℕ) → p < m.procs → i < m.width → at.proc p ≡ At f n → b ≡ 1 - side m p f → words (BankWord p b i) ≡ laid m p f (stores_made m n) b i (bank_before m p f b i)
  bank_in p f n b i l li here e = bank_word p b i l (omega arith) li ∙ ap (λ (x : Place). bank_at m p x b i) here

  kernel_word : (i : ℕ) → i < 20 → words (KernelWord i) ≡ kernel_at m at.frame at.step i
  kernel_word i l = k.words_are (KernelWord i) l

  release_word : 0 < m.frames → words ReleaseWord ≡ suc at.frame
  release_word l = k.words_are ReleaseWord tt ∙ positive m.frames at.frame l
    where
      positive : (f k : ℕ) → 0 < f → (if nat_eq f 0 then 0 else suc k) ≡ suc k
      positive f k l = grind (arith, nat_tests)

  new_word : (i : ℕ) → i < at.step - m.procs → kernel_at m at.frame at.step i ≡ word_in (m.kernel_image (suc at.frame)) i
  new_word i l = grind (arith, nat_tests)

  old_word : (i : ℕ) → at.step - m.procs ≤ i → kernel_at m at.frame at.step i ≡ word_in (m.kernel_image at.frame) i
  old_word i l = grind (arith, nat_tests)

  noted_run : (p f n : ℕ) → p < m.procs → p < at.step → at.proc p ≡ At f n → (f ≡ suc at.frame) × (n ≡ 0)
  noted_run p f n l g here = let r = runs p f n l here in let late : at.frame < f = r.noted g in (omega (arith, r.high), r.fresh late)

  read_bank : (p f n : ℕ) → p < m.procs → Reads at p f n → (q i : ℕ) → q < m.procs → i < m.width → words (BankWord q (pick (words (MarkWord q)) f) i) ≡ word_in (image_before m q f) i
  read_bank p f n l r q i lq li = rw (picks m at words y k p f n q l r.0 r.1 lq) (holds m at words y k p f n q i l r.0 r.1 lq li)

  pub facts : IsConsistent m at words
  facts = record {
    mark = λ p l. k.words_are (MarkWord p) l ∙ mark_marked m p (at.proc p);
    marked_bank = at_side;
    drafted = λ p f n i l li here h g. let e = unmarked_bank_is p f n here h in bank_in p f n (unmarked_bank m at p) i l li here e ∙ laid_new m p f (stores_made m n) (unmarked_bank m at p) i _ e g;
    not_drafted = λ p f n i l li here h g. let e = unmarked_bank_is p f n here h in bank_in p f n (unmarked_bank m at p) i l li here e ∙ laid_past m p f (stores_made m n) (unmarked_bank m at p) i _ g;
    after_flip = λ p i l li h. bank_word p (unmarked_bank m at p) i l (omega arith) li ∙ flipped_bank m at.frame at.step p (at.proc p) (unmarked_bank m at p) i (k.placed p l) h;
    running = λ p f n l here. let r = runs p f n l here in run_frame at.frame f n r.low r.high r.fresh (dec_le f at.frame);
    halted = λ p h l here. let s = stops p h l here in (s.high, s.later);
    release = release_word;
    noted_running = noted_run;
    noted_halted = λ p h l g here. (stops p h l here).noted g;
    kernel_new = λ i l g. kernel_word i l ∙ new_word i g;
    kernel_old = λ i l g. kernel_word i l ∙ old_word i g;
    reads = read_bank;
    reads_kernel = λ p f n l r i li. kernel_reads m at words y k p f n i l r.0 r.1 li;
  }
