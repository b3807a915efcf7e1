-- The marks and images that the kernel reads at the end of a frame are those of the one-thread trace.
use Rattle.std.proofs.Common.{◌≡◌, ◌∙◌, ℕ, suc, ℤ, ◌+◌, ◌*◌, ◌/◌, ◌%◌, ◌<◌, ◌≤◌, refl, ap, sym, subst, arith, true, List, length}
use Rattle.std.specs.Prelude.{nat_le}
use Rattle.std.proofs.lemmas.Bool.Decides.{nat_tests}
use Rattle.scram_types.specs.Eights.{eight}
use Rattle.scram_types.specs.Scripts.{ScriptParts}
use Rattle.scram_types.specs.Specification.{Parts}
use Rattle.scram_types.proofs.Eights.{eight_at}
use Rattle.bank_words.specs.Marks.{mark_word, pick}
use Rattle.fault_script.specs.Times.{words}
use Rattle.frame_model.specs.Storage.{image_bank_after, last_count, mark_after}
use Rattle.fail_stop.specs.Events.{BankWord, MarkWord}
use Rattle.fail_stop.specs.Flights.{word_in}
use Rattle.fail_stop.specs.Laws.{IsNoted}
use Rattle.fail_stop.specs.Listed.{stored_in}
use Rattle.fail_stop.specs.ScriptFlights.{image_words_after}
use Rattle.scram_kernel.specs.Kernels.{KernelParts, kernel_after}
use Rattle.scram_kernel.specs.Marks.{AreImages, AreMarks}
use Rattle.scram_kernel.proofs.Commits.{bank_low, last_low}
use Rattle.event_core.specs.Reads.{bank_taken}

pick_of : (count bank f : ℕ) → count ≤ f → bank ≤ 1 → pick (mark_word count bank) f ≡ bank
pick_of count bank f low small =
    let half : (2 * count + bank) / 2 ≡ count = omega (arith, small) in
    let rest : (2 * count + bank) % 2 ≡ bank = omega (arith, small) in
    let early : nat_le count f ≡ true = grind (arith, nat_tests, low) in
    rw (half, rest, early) refl

-- The mark of a processor after all frames before `f` leads a reader in frame `f` to the bank that holds the
-- processor's image.
picked : (spec : Parts) (script : ScriptParts) (p f : ℕ) → pick (mark_after spec script p f) f ≡ image_bank_after spec script p f
picked spec script p f = pick_of (last_count spec script p f) (image_bank_after spec script p f) f (last_low spec script p f) (bank_low spec script p f)

module _ (spec : Parts) (script : ScriptParts) (stored : List ℕ) (k : ℕ) (few : length spec.procs ≤ 8) (noted : (p : ℕ) → p < length spec.procs → IsNoted spec script (stored_in stored) k p) where
  pub marks_noted : (marks : List ℕ) → marks ≡ eight (λ p. stored_in stored (MarkWord p)) → AreMarks spec script (suc k) marks
  marks_noted marks is p low = rw is (eight_at (λ p. stored_in stored (MarkWord p)) p 0 (omega (arith, low, few)) ∙ (noted p low).mark)

  pub held_noted : (p i : ℕ) → p < length spec.procs → i < words spec → stored_in stored (BankWord p (bank_taken stored (suc k) p) i) ≡ word_in (image_words_after spec script p (suc k)) i
  held_noted p i low inside =
      let n = noted p low in
      let bank : bank_taken stored (suc k) p ≡ image_bank_after spec script p (suc k) = ap (λ mark. pick mark (suc k)) n.mark ∙ picked spec script p (suc k) in
      rw bank (n.held i inside)

-- If a kernel has ended `k` frames, then the marks after frame `k` are the marks after the kernel's current frame.
pub marks_of : (kernel : KernelParts) (spec : Parts) (script : ScriptParts) (k : ℕ) (marks : List ℕ) → kernel ≡ kernel_after spec script k → AreMarks spec script (suc k) marks
    → AreMarks kernel.spec kernel.script (kernel.past + 1) marks
marks_of kernel spec script k marks is are =
    let e : suc k ≡ k + 1 = omega arith in
    subst (λ (kernel : KernelParts). AreMarks kernel.spec kernel.script (kernel.past + 1) marks) (sym is) (subst (λ n. AreMarks spec script n marks) e are)

pub images_of : (kernel : KernelParts) (spec : Parts) (script : ScriptParts) (k : ℕ) (images : List (List ℤ)) → kernel ≡ kernel_after spec script k → AreImages spec script (k + 1) images
    → AreImages kernel.spec kernel.script (kernel.past + 1) images
images_of kernel spec script k images is are = subst (λ (kernel : KernelParts). AreImages kernel.spec kernel.script (kernel.past + 1) images) (sym is) are
