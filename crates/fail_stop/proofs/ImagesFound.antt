-- An image that has the words of the trace is the image of the trace.
use Rattle.std.proofs.Common.{◌≡◌, ◌∙◌, ℕ, suc, ℤ, pos, ◌+◌, ◌*◌, ◌/◌, ◌%◌, ◌<◌, ◌≤◌, refl, ap, sym, arith, List, [], ◌∷◌, length}
use Rattle.std.specs.Prelude.{slice_index_or}
use native.Mathlib.Decide.{dec_le}
use Rattle.scram_types.specs.Scripts.{ScriptParts}
use Rattle.scram_types.specs.Specification.{IsSpec, Parts}
use Rattle.scram_types.proofs.Eights.{eight_at}
use Rattle.bank_words.specs.Numbers.{decode}
use Rattle.fault_script.specs.Times.{words}
use Rattle.frame_model.specs.Flights.{image_after, slot_after}
use Rattle.frame_model.proofs.Past.{slot_past}
use Rattle.frame_model.proofs.Slots.{slot_is}
use Rattle.fail_stop.specs.Flights.{word_in}
use Rattle.fail_stop.specs.ScriptFlights.{image_words_after}
use Rattle.fail_stop.proofs.Joining.{image_long}
use Rattle.fail_stop.proofs.OpeningLists.{image_word, slot_word}
use Rattle.fail_stop.proofs.ImageRanges.{read_back, slot_words}

same_words : (a b : List ℤ) → length a ≡ length b → ((i : ℕ) → i < length a → slice_index_or a i (pos 0) ≡ slice_index_or b i (pos 0)) → a ≡ b
same_words [] [] long same = refl
same_words [] (y ∷ b) long same = absurd (omega (arith, long))
same_words (x ∷ a) [] long same = absurd (omega (arith, long))
same_words (x ∷ a) (y ∷ b) long same =
    let first : x ≡ y = same 0 (omega arith) in
    let rest : a ≡ b = same_words a b (omega (arith, long)) (λ i low. same (suc i) (omega (arith, low))) in
    rw (first, rest) refl

image_after_long : (spec : Parts) (script : ScriptParts) (p f : ℕ) → length (image_after spec script p f) ≡ 64
image_after_long spec script p f = image_long (slot_after spec script p f) (λ a low. ap length (sym (slot_is spec script p f a low)))

word_of_slot : (spec : Parts) (script : ScriptParts) (p f i : ℕ) → i < 64 → slice_index_or (image_after spec script p f) i (pos 0) ≡ slice_index_or (slot_after spec script p f (i / 8)) (i % 8) (pos 0)
word_of_slot spec script p f i low =
    let at : i ≡ 8 * (i / 8) + i % 8 = omega arith in
    ap (λ n. slice_index_or (image_after spec script p f) n (pos 0)) at ∙ slot_word spec script p f (i / 8) (i % 8) (omega (arith, low)) (omega arith)

module _ (spec : Parts) (facts : IsSpec spec) (script : ScriptParts) (f p : ℕ) where
  word_read : (i : ℕ) → i < 64 → decode (word_in (image_words_after spec script p f) i) ≡ slice_index_or (image_after spec script p f) i (pos 0)
  word_read i low =
      ap decode (image_word spec script p f i low) ∙ read_back _ (slot_words spec facts script p f (i / 8) (omega (arith, low)) (i % 8) (omega arith)) ∙ sym (word_of_slot spec script p f i low)

  word_outside : (i : ℕ) → i < 64 → words spec ≤ i → pos 0 ≡ slice_index_or (image_after spec script p f) i (pos 0)
  word_outside i low past =
      let outside : length spec.apps ≤ i / 8 = omega (arith, past) in
      sym (word_of_slot spec script p f i low ∙ ap (λ slot. slice_index_or slot (i % 8) (pos 0)) (slot_past spec facts script p f (i / 8) outside) ∙ eight_at (λ j. pos 0) (i % 8) (pos 0) (omega arith))

  word_is : (image : List ℤ) → ((i : ℕ) → i < words spec → slice_index_or image i (pos 0) ≡ decode (word_in (image_words_after spec script p f) i))
      → ((i : ℕ) → i < 64 → words spec ≤ i → slice_index_or image i (pos 0) ≡ pos 0)
      → (i : ℕ) → i < 64 → Dec (words spec ≤ i) → slice_index_or image i (pos 0) ≡ slice_index_or (image_after spec script p f) i (pos 0)
  word_is image read past i low (yes d) = past i low d ∙ word_outside i low d
  word_is image read past i low (no d) = read i (omega (arith, d)) ∙ word_read i low

  -- An image that has the words of the trace, and zeros after them, is the image of the trace.
  pub image_found : (image : List ℤ) → length image ≡ 64 → ((i : ℕ) → i < words spec → slice_index_or image i (pos 0) ≡ decode (word_in (image_words_after spec script p f) i))
      → ((i : ℕ) → i < 64 → words spec ≤ i → slice_index_or image i (pos 0) ≡ pos 0) → image ≡ image_after spec script p f
  image_found image long read past =
      same_words image (image_after spec script p f) (long ∙ sym (image_after_long spec script p f))
      (λ i low. word_is image read past i (omega (arith, low, long)) (dec_le (words spec) i))
