-- The facts on places and words that hold in each state of each schedule.
use Rattle.std.specs.Prelude.{◌≡◌, ◌⊎◌, ℕ, suc, ◌+◌, ◌-◌, ◌%◌, ◌<◌, ◌≤◌, Some, if◌then◌else◌}
use Rattle.bank_words.specs.Marks.{mark_word, pick}
use Rattle.fail_stop.specs.Flights.{Flight, word_in, last_commit, commit_count, image_before, bank_before}
use Rattle.fail_stop.specs.Events.{Place, At, Halted, Places, Word, ReleaseWord, KernelWord, MarkWord, BankWord}
use Rattle.fail_stop.specs.Kept.{is_flipped, stores_made}

-- The number `g` such that the mark of a processor at this place is the processor's mark after the first `g` frames.
abbrev pub marked : Flight → Place → ℕ
marked m (At f n) = if is_flipped m n then suc f else f
marked m (Halted h) = suc h

-- The bank of processor `p` that the mark of `p` does not name.
abbrev pub unmarked_bank : Flight → Places → ℕ → ℕ
unmarked_bank m at p = 1 - commit_count m p (marked m (at.proc p)) % 2

-- Processor `p` is in frame `f` and has made `n` steps in the frame. At least the start is among these steps.
abbrev pub Reads : Places → ℕ → ℕ → ℕ → Type 0
Reads at p f n = (at.proc p ≡ At f n) × (0 < n)

-- Processor `p` has no restart in the frames after `h` up to and including `k`.
abbrev pub NoRestart : Flight → ℕ → ℕ → ℕ → Type 0
NoRestart m p h k = (r : ℕ) → m.restart p ≡ Some r → h < r → k < r

-- The places and words are consistent with the flight. The facts concern the marks and banks, the places of the
-- processors, the release, the notes, the kernel's words, and the words that a reader finds.
pub record IsConsistent (m : Flight) (at : Places) (words : Word → ℕ) : Type 0 where
  pub mark : (p : ℕ) → p < m.procs → words (MarkWord p) ≡ mark_word (last_commit m p (marked m (at.proc p))) (commit_count m p (marked m (at.proc p)) % 2)
  pub marked_bank : (p i : ℕ) → p < m.procs → i < m.width → words (BankWord p (commit_count m p (marked m (at.proc p)) % 2) i)
      ≡ word_in (image_before m p (last_commit m p (marked m (at.proc p)))) i
  pub drafted : (p f n i : ℕ) → p < m.procs → i < m.width → at.proc p ≡ At f n → n ≤ m.procs + 1 + m.width → i < stores_made m n
      → words (BankWord p (unmarked_bank m at p) i) ≡ word_in (m.draft p f) i
  pub not_drafted : (p f n i : ℕ) → p < m.procs → i < m.width → at.proc p ≡ At f n → n ≤ m.procs + 1 + m.width → stores_made m n ≤ i
      → words (BankWord p (unmarked_bank m at p) i) ≡ bank_before m p f (unmarked_bank m at p) i
  pub after_flip : (p i : ℕ) → p < m.procs → i < m.width → ((f n : ℕ) → at.proc p ≡ At f n → m.procs + 1 + m.width < n)
      → words (BankWord p (unmarked_bank m at p) i) ≡ bank_before m p (marked m (at.proc p)) (unmarked_bank m at p) i
  pub running : (p f n : ℕ) → p < m.procs → at.proc p ≡ At f n → (f ≡ at.frame) ⊎ ((f ≡ suc at.frame) × (n ≡ 0))
  pub halted : (p h : ℕ) → p < m.procs → at.proc p ≡ Halted h → (h ≤ at.frame) × ((r : ℕ) → m.restart p ≡ Some r → h < r → at.frame ≤ r)
  pub release : 0 < m.frames → words ReleaseWord ≡ suc at.frame
  pub noted_running : (p f n : ℕ) → p < m.procs → p < at.step → at.proc p ≡ At f n → (f ≡ suc at.frame) × (n ≡ 0)
  pub noted_halted : (p h : ℕ) → p < m.procs → p < at.step → at.proc p ≡ Halted h → NoRestart m p h at.frame
  pub kernel_new : (i : ℕ) → i < 20 → i < at.step - m.procs → words (KernelWord i) ≡ word_in (m.kernel_image (suc at.frame)) i
  pub kernel_old : (i : ℕ) → i < 20 → at.step - m.procs ≤ i → words (KernelWord i) ≡ word_in (m.kernel_image at.frame) i
  pub reads : (p f n : ℕ) → p < m.procs → Reads at p f n → (q i : ℕ) → q < m.procs → i < m.width
      → words (BankWord q (pick (words (MarkWord q)) f) i) ≡ word_in (image_before m q f) i
  pub reads_kernel : (p f n : ℕ) → p < m.procs → Reads at p f n → (i : ℕ) → i < 20 → words (KernelWord i) ≡ word_in (m.kernel_image f) i
