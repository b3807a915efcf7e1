-- The words of a unit and the banks that a reader in a frame picks are the snapshot of the frame.
use Rattle.std.proofs.Common.{◌≡◌, ◌∙◌, ℕ, suc, ℤ, pos, ◌<◌, true, false, refl, ap, arith, List, [], ◌∷◌, length}
use Rattle.std.specs.Prelude.{nat_lt, slice_index_or}
use Rattle.std.proofs.lemmas.Bool.Decides.{nat_tests}
use Rattle.scram_types.specs.Scripts.{ScriptParts}
use Rattle.scram_types.specs.Specification.{IsSpec, Parts}
use Rattle.bank_words.specs.Images.{kernel_decode}
use Rattle.bank_words.specs.Marks.{pick}
use Rattle.bank_words.specs.Numbers.{decode}
use Rattle.fault_script.specs.Fits.{Fits}
use Rattle.fault_script.specs.Times.{words}
use Rattle.frame_model.specs.Flights.{image_after}
use Rattle.frame_model.specs.Storage.{kernel_image}
use Rattle.fail_stop.specs.Flights.{word_in}
use Rattle.fail_stop.specs.Laws.{KernelImagesComeBack}
use Rattle.fail_stop.specs.ScriptFlights.{image_words_after, kernel_words}
use Rattle.fail_stop.proofs.ImagesFound.{image_found}
use Rattle.kernel_pair.specs.declared.states.PairState.{PairState}
use Rattle.kernel_pair.specs.Laws.{FindsBy}
use Rattle.kernel_pair.specs.States.{blank_processor, blank_unit, pair_of, word_decoded}

same_list : (a b : List ℕ) → length a ≡ length b → ((i : ℕ) → i < length a → slice_index_or a i 0 ≡ slice_index_or b i 0) → a ≡ b
same_list [] [] long same = refl
same_list [] (y ∷ b) long same = absurd (omega (arith, long))
same_list (x ∷ a) [] long same = absurd (omega (arith, long))
same_list (x ∷ a) (y ∷ b) long same =
    let first : x ≡ y = same 0 (omega arith) in
    let rest : a ≡ b = same_list a b (omega (arith, long)) (λ i low. same (suc i) (omega (arith, low))) in
    rw (first, rest) refl

module _ (spec : Parts) (script : ScriptParts) (state : PairState) (u f : ℕ) (facts : IsSpec spec) (fits : Fits spec script) (finds : FindsBy spec script (pair_of state) u f) where
  pub kernel_found : KernelImagesComeBack → f < 4294967296 → length (slice_index_or state.units u blank_unit).words ≡ 20 → kernel_decode (slice_index_or state.units u blank_unit).words ≡ kernel_image spec script f
  kernel_found back low long =
      ap kernel_decode (same_list (slice_index_or state.units u blank_unit).words (kernel_words spec script f) long (λ i l. finds.kernel i (omega (arith, long)))) ∙ back spec script f facts fits low

  pub image_seen : (q : ℕ) (image : List ℤ) → q < length spec.procs → length image ≡ 64
      → ((i : ℕ) → i < 64 → slice_index_or image i (pos 0) ≡ word_decoded spec (slice_index_or (slice_index_or state.procs q blank_processor).banks (pick (slice_index_or state.procs q blank_processor).mark f) []) i)
      → image ≡ image_after spec script q f
  image_seen q image l long read =
      let narrow = facts.apps_count.few in
      let same : (i : ℕ) → i < words spec → slice_index_or (slice_index_or (slice_index_or state.procs q blank_processor).banks (pick (slice_index_or state.procs q blank_processor).mark f) []) i 0 ≡ word_in (image_words_after spec script q f) i =
      λ i inside. ap (λ (b : ℕ). slice_index_or (slice_index_or (slice_index_or state.procs q blank_processor).banks b []) i 0) (finds.picked q l) ∙ finds.held q i l inside in
      image_found spec facts script f q image long
      (λ i inside. let there : nat_lt i (words spec) ≡ true = grind (arith, nat_tests, inside) in read i (omega (arith, inside, narrow)) ∙ rw there (ap decode (same i inside)))
      (λ i under past. let none : nat_lt i (words spec) ≡ false = grind (arith, nat_tests, past) in read i under ∙ rw none refl)
