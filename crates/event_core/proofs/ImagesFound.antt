-- The images that a reader in a frame finds are those of the one-thread trace.
use Rattle.std.proofs.Common.{◌≡◌, ◌∙◌, ℕ, ℤ, pos, ◌<◌, ◌≤◌, true, false, ap, refl, arith, List, length}
use Rattle.std.specs.Prelude.{nat_lt, slice_index_or}
use Rattle.std.proofs.lemmas.Bool.Decides.{nat_tests}
use Rattle.scram_types.specs.Scripts.{ScriptParts}
use Rattle.scram_types.specs.Specification.{IsSpec, Parts}
use Rattle.bank_words.specs.Numbers.{decode}
use Rattle.fault_script.specs.Times.{words}
use Rattle.frame_model.specs.Flights.{image_in}
use Rattle.fail_stop.specs.Events.{BankWord}
use Rattle.fail_stop.specs.Flights.{word_in}
use Rattle.fail_stop.specs.Listed.{stored_in}
use Rattle.fail_stop.specs.ScriptFlights.{image_words_after}
use Rattle.fail_stop.proofs.ImagesFound.{image_found}
use Rattle.scram_kernel.specs.Marks.{AreImages}
use Rattle.event_core.specs.Reads.{bank_taken, word_read}

pub images_found : (spec : Parts) → IsSpec spec → (script : ScriptParts) (stored : List ℕ) (f : ℕ) (images : List (List ℤ)) → length spec.procs ≤ 8
    → ((p i : ℕ) → p < length spec.procs → i < words spec → stored_in stored (BankWord p (bank_taken stored f p) i) ≡ word_in (image_words_after spec script p f) i)
    → ((p : ℕ) → p < 8 → length (image_in images p) ≡ 64) → ((p : ℕ) → p < 8 → (i : ℕ) → i < 64 → slice_index_or (image_in images p) i (pos 0) ≡ word_read spec stored f p i)
    → AreImages spec script f images
images_found spec facts script stored f images few held long read p low =
    let small : p < 8 = omega (arith, low, few) in
    let narrow = facts.apps_count.few in
    image_found spec facts script f p (image_in images p) (long p small)
    (λ i inside. let there : nat_lt i (words spec) ≡ true = grind (arith, nat_tests, inside) in read p small i (omega (arith, inside, narrow)) ∙ rw there (ap decode (held p i low inside)))
    (λ i under past. let none : nat_lt i (words spec) ≡ false = grind (arith, nat_tests, past) in read p small i under ∙ rw none refl)
