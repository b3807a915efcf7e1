-- Lemmas on the marks and images that the kernel notes, on the number of frames in which it has noted all processors,
-- and on the kernel's words that it publishes.
use Rattle.std.proofs.Common.{◌≡◌, ◌≢◌, ◌∙◌, ◌⊎◌, ℕ, suc, ◌+◌, ◌<◌, ℤ, ap, sym, refl, inl, inr, arith, true, false, List, [], length}
use Rattle.std.specs.Prelude.{nat_lt, slice_index_or, slice_set}
use Rattle.std.proofs.lemmas.Bool.Decides.{nat_tests}
use Rattle.scram_types.specs.Scripts.{ScriptParts}
use Rattle.scram_types.specs.Specification.{Parts}
use Rattle.bank_words.specs.declared.images.KernelImage.{KernelImage}
use Rattle.bank_words.specs.Images.{kernel_encode}
use Rattle.coverage_check.specs.Missions.{MissionParts}
use Rattle.frame_model.specs.Flights.{image_after}
use Rattle.frame_model.specs.Storage.{kernel_image, mark_after}
use Rattle.fail_stop.specs.Flights.{word_in}
use Rattle.fail_stop.specs.ScriptFlights.{kernel_words}
use Rattle.scram_kernel.specs.Kernels.{KernelParts, kernel_after}
use Rattle.scram_kernel.specs.Marks.{AreImages, AreMarks}
use Rattle.std.proofs.lemmas.Grind.{get_or-set_at}
use Rattle.std.proofs.lemmas.List.{get_or-set_other}
use Rattle.word_table.specs.declared.seats.KSeat.{KSeat}
use Rattle.word_table.specs.Tables.{kernel_frame, kernel_steps}
use Rattle.word_deck.specs.Kernels.{AreNoted, IsKernelBetween, IsKernelDone, KernelCrewKeeps, frames_noted}
use Rattle.word_deck.specs.declared.kernels.Noted.{Noted}

-- If the first `n` processors are noted and processor `n` is noted next, then the first `n + 1` processors are noted.

at_last : (n p : ℕ) → p < n + 1 → (p ≡ n) ⊎ (p < n)
at_last n p low = grind arith

pub set_more : {A : Type 0} (value : ℕ → A) (xs : List A) (d : A) (n : ℕ) (x : A) → ((p : ℕ) → p < n → slice_index_or xs p d ≡ value p) → n < length xs → x ≡ value n
    → (p : ℕ) → p < n + 1 → slice_index_or (slice_set xs n x) p d ≡ value p
set_more value xs d n x front low is p under = elim (at_last n p under) [
  | inl here ↦ get_or-set_at xs n p x d here low ∙ is ∙ ap value (sym here)
  | inr before ↦ get_or-set_other xs n p x d (λ same. omega (arith, same, before)) ∙ front p before
]

pub noted_more : (mission : MissionParts) (k n : ℕ) (noted : Noted) (mark : ℕ) (image : List ℤ) → AreNoted mission k n noted → n < 8 → length noted.marks ≡ 8 → length noted.images ≡ 8
    → mark ≡ mark_after mission.spec mission.script n (suc k) → image ≡ image_after mission.spec mission.script n (suc k)
    → AreNoted mission k (n + 1) (record { marks = slice_set noted.marks n mark; images = slice_set noted.images n image })
noted_more mission k n noted mark image is low eight_marks eight_images same_mark same_image = record {
  marks = set_more (λ p. mark_after mission.spec mission.script p (suc k)) noted.marks 0 n mark is.marks (rw eight_marks low) same_mark;
  images = set_more (λ p. image_after mission.spec mission.script p (suc k)) noted.images [] n image is.images (rw eight_images low) same_image;
}

-- If the image at index `n` is replaced, the first `n` processors are still noted.
pub noted_still : (mission : MissionParts) (k n : ℕ) (noted : Noted) (image : List ℤ) → AreNoted mission k n noted → AreNoted mission k n (record { marks = noted.marks; images = slice_set noted.images n image })
noted_still mission k n noted image is = record {
  marks = is.marks;
  images = λ p low. get_or-set_other noted.images n p image [] (λ same. omega (arith, same, low)) ∙ is.images p low;
}

pub noted_on : (mission : MissionParts) (k f n : ℕ) (noted : Noted) (mark : ℕ) (image : List ℤ) → f ≡ k → AreNoted mission k n noted → n < 8 → length noted.marks ≡ 8 → length noted.images ≡ 8
    → mark ≡ mark_after mission.spec mission.script n (f + 1) → image ≡ image_after mission.spec mission.script n (f + 1)
    → AreNoted mission k (n + 1) (record { marks = slice_set noted.marks n mark; images = slice_set noted.images n image })
noted_on mission k f n noted mark image same is low eight_marks eight_images of_mark of_image =
    let at : f + 1 ≡ suc k = omega (arith, same) in
    noted_more mission k n noted mark image is low eight_marks eight_images (of_mark ∙ ap (mark_after mission.spec mission.script n) at) (of_image ∙ ap (image_after mission.spec mission.script n) at)

-- Lemmas on the number of frames in which the kernel has noted all processors.

pub below : (procs : ℕ) (kseat : KSeat) → kernel_steps kseat < procs → frames_noted procs kseat ≡ kernel_frame kseat
below procs kseat low = let e : nat_lt (kernel_steps kseat) procs ≡ true = grind (arith, nat_tests) in rw e refl

pub fresh : (procs : ℕ) (one other : KSeat) → 0 < procs → other ≡ one → (kernel_frame one ≡ 0) × (kernel_steps one ≡ 0) → frames_noted procs other ≡ 0
fresh procs one other some same at = below procs other (omega (arith, some, ap kernel_steps same, at.1)) ∙ ap kernel_frame same ∙ at.0

pub kernel_opens : (mission : MissionParts) (kseat : KSeat) (kernel : KernelParts) (noted : Noted) → 0 < length mission.spec.procs → kernel_frame kseat ≡ 0 → kernel_steps kseat ≡ 0
    → kernel ≡ kernel_after mission.spec mission.script 0 → KernelCrewKeeps mission kseat kernel noted
kernel_opens mission kseat kernel noted some at start new =
    let low : kernel_steps kseat < length mission.spec.procs = omega (arith, some, start) in
    record {
      between = record {
        within = omega (arith, at);
        flies = λ flown. omega (arith, at, flown);
        steps = omega (arith, start);
        last = λ same. absurd (omega (arith, same, low));
      };
      log = new ∙ ap (kernel_after mission.spec mission.script) (sym (below (length mission.spec.procs) kseat low ∙ at));
      noted_are = record { marks = λ p under. absurd (omega (arith, under, start)); images = λ p under. absurd (omega (arith, under, start)) };
    }

pub all : (procs : ℕ) (kseat : KSeat) → kernel_steps kseat ≡ procs → frames_noted procs kseat ≡ suc (kernel_frame kseat)
all procs kseat same = let e : nat_lt (kernel_steps kseat) procs ≡ false = grind (arith, nat_tests) in rw e refl

pub done_log : (mission : MissionParts) (kseat : KSeat) → IsKernelBetween (length mission.spec.procs) mission.script.frames kseat → IsKernelDone mission kseat
    → frames_noted (length mission.spec.procs) kseat ≡ mission.script.frames
done_log mission kseat between (inl none) =
    let procs = length mission.spec.procs in
    let within = between.within in
    let more : kernel_steps kseat ≢ procs = (λ same. let last = between.last same in omega (arith, none, last)) in
    let less : kernel_steps kseat < procs = let most = between.steps in grind (arith, more, most) in
    below procs kseat less ∙ omega (arith, within, none)
done_log mission kseat between (inr last) = all (length mission.spec.procs) kseat last.1 ∙ last.0

-- Lemmas on the values that the kernel passes to the log and to the words.

module _ (kernel : KernelParts) (mission : MissionParts) (noted : Noted) (is : kernel ≡ kernel_after mission.spec mission.script kernel.past)
    (are : AreNoted mission kernel.past (length mission.spec.procs) noted) where
  spec_is : kernel.spec ≡ mission.spec
  spec_is = ap (λ (k : KernelParts). k.spec) is

  script_is : kernel.script ≡ mission.script
  script_is = ap (λ (k : KernelParts). k.script) is

  later : suc kernel.past ≡ kernel.past + 1
  later = omega arith

  pub images_for : AreImages kernel.spec kernel.script (kernel.past + 1) noted.images
  images_for = λ p low.
      are.images p (rw spec_is at low) ∙ ap (λ spec. image_after spec mission.script p (suc kernel.past)) (sym spec_is)
      ∙ ap (λ script. image_after kernel.spec script p (suc kernel.past)) (sym script_is) ∙ ap (image_after kernel.spec kernel.script p) later

  pub marks_for : AreMarks kernel.spec kernel.script (kernel.past + 1) noted.marks
  marks_for = λ p low.
      are.marks p (rw spec_is at low) ∙ ap (λ spec. mark_after spec mission.script p (suc kernel.past)) (sym spec_is)
      ∙ ap (λ script. mark_after kernel.spec script p (suc kernel.past)) (sym script_is) ∙ ap (mark_after kernel.spec kernel.script p) later

pub word_said : (spec : Parts) (script : ScriptParts) (f g i : ℕ) (said : List ℕ) (image : KernelImage) (word : ℕ) → said ≡ kernel_encode image → image ≡ kernel_image spec script f → g ≡ f
    → word ≡ slice_index_or said i 0 → word ≡ word_in (kernel_words spec script g) i
word_said spec script f g i said image word a b c d =
    d ∙ ap (λ xs. word_in xs i) (a ∙ ap kernel_encode b) ∙ ap (λ h. word_in (kernel_words spec script h) i) (sym c)
