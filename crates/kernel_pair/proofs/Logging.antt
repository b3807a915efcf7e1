-- The marks and images that a unit has noted in its frame are the marks and images after the frame in the one-thread
-- trace.
use Rattle.std.proofs.Common.{◌≡◌, ◌∙◌, ℕ, suc, ℤ, pos, ◌+◌, ◌<◌, true, false, refl, ap, subst, arith, List, [], length}
use Rattle.std.specs.Prelude.{nat_lt, slice_index_or}
use Rattle.std.proofs.lemmas.Bool.Decides.{nat_tests}
use Rattle.scram_types.specs.Scripts.{ScriptParts}
use Rattle.scram_types.specs.Specification.{IsSpec, Parts}
use Rattle.bank_words.specs.Numbers.{decode}
use Rattle.fault_script.specs.Times.{words}
use Rattle.frame_model.specs.Flights.{image_in}
use Rattle.fail_stop.proofs.ImagesFound.{image_found}
use Rattle.scram_kernel.specs.Marks.{AreImages, AreMarks}
use Rattle.kernel_pair.specs.declared.units.UnitState.{UnitState}
use Rattle.kernel_pair.specs.Laws.{HasNoted}
use Rattle.kernel_pair.specs.States.{unit_of, word_decoded}

module _ (spec : Parts) (script : ScriptParts) (x : UnitState) (noted : (p : ℕ) → p < length spec.procs → HasNoted spec script (unit_of x) p) where
  pub marks_are : AreMarks spec script (x.frame + 1) x.marks
  marks_are = let e : suc x.frame ≡ x.frame + 1 = omega arith in subst (λ n. AreMarks spec script n x.marks) e (λ p l. (noted p l).mark)

  images_by : IsSpec spec → (images : List (List ℤ)) → ((p : ℕ) → p < 8 → length (image_in images p) ≡ 64)
      → ((p : ℕ) → p < 8 → (i : ℕ) → i < 64 → slice_index_or (image_in images p) i (pos 0) ≡ word_decoded spec (slice_index_or x.images p []) i)
      → AreImages spec script (suc x.frame) images
  images_by facts images long read p l =
      let few = facts.procs_count.few in
      let narrow = facts.apps_count.few in
      let small : p < 8 = omega (arith, l, few) in
      image_found spec facts script (suc x.frame) p (image_in images p) (long p small)
      (λ i inside. let there : nat_lt i (words spec) ≡ true = grind (arith, nat_tests, inside) in read p small i (omega (arith, inside, narrow)) ∙ rw there (ap decode ((noted p l).image i inside)))
      (λ i under past. let none : nat_lt i (words spec) ≡ false = grind (arith, nat_tests, past) in read p small i under ∙ rw none refl)

  pub images_are : IsSpec spec → (images : List (List ℤ)) → ((p : ℕ) → p < 8 → length (image_in images p) ≡ 64)
      → ((p : ℕ) → p < 8 → (i : ℕ) → i < 64 → slice_index_or (image_in images p) i (pos 0) ≡ word_decoded spec (slice_index_or x.images p []) i)
      → AreImages spec script (x.frame + 1) images
  images_are facts images long read = let e : suc x.frame ≡ x.frame + 1 = omega arith in subst (λ n. AreImages spec script n images) e (images_by facts images long read)
