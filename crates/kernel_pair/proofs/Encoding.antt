-- Lemmas that a list contains the words of an image after they have been written to it one by one.
use Rattle.std.proofs.Common.{◌≡◌, ◌∙◌, ℕ, zero, suc, ℤ, pos, ◌+◌, ◌<◌, ◌≤◌, refl, sym, ap, arith, Bool, true, false, List, [], ◌∷◌, length}
use Rattle.std.specs.Prelude.{nat_eq, slice_index_or, slice_set, if◌then◌else◌}
use Rattle.std.proofs.lemmas.Bool.Decides.{nat_tests}
use Rattle.std.proofs.lemmas.Grind.{common_steps}
use native.Mathlib.Decide.{dec_le}
use Rattle.bank_words.specs.Numbers.{encode}
use Rattle.fail_stop.specs.Flights.{word_in}
use Rattle.fail_stop.specs.ScriptFlights.{image_words}
use Rattle.fail_stop.proofs.OpeningLists.{encoded_at}

-- If each word of a list before index `n` is the value of `v` at its index, and `v n` is set at index `n`, then each
-- word before index `n + 1` is the value of `v` at its index.
pub word_more : (words : List ℕ) (n : ℕ) (v : ℕ → ℕ) (x : ℕ) → n < length words → x ≡ v n → ((j : ℕ) → j < n → slice_index_or words j 0 ≡ v j) → (j : ℕ) → j < n + 1 → slice_index_or (slice_set words n x) j 0 ≡ v j
word_more words n v x low is before j small = by_place (nat_eq j n) refl where
  set_at : slice_index_or (slice_set words n x) j 0 ≡ (if nat_eq j n then x else slice_index_or words j 0)
  set_at = grind (arith, common_steps, nat_tests)

  by_place : (b : Bool) → nat_eq j n ≡ b → slice_index_or (slice_set words n x) j 0 ≡ v j
  by_place true here = let same : j ≡ n = grind (arith, nat_tests, here) in set_at ∙ rw (here, same) is
  by_place false apart = let other : j < n = grind (arith, nat_tests, apart, small) in set_at ∙ rw apart (before j other)

past_end : {A : Type 0} (xs : List A) (i : ℕ) (d : A) → length xs ≤ i → slice_index_or xs i d ≡ d
past_end [] i d l = refl
past_end (x ∷ xs) zero d l = absurd (omega (arith, l))
past_end (x ∷ xs) (suc i) d l = past_end xs i d (omega (arith, l))

-- If each of 64 words encodes the number at the same index of an image, then they are the words of the image.
pub words_at : (words : List ℕ) (image : List ℤ) → length words ≡ 64 → length image ≡ 64 → ((i : ℕ) → i < 64 → slice_index_or words i 0 ≡ encode (slice_index_or image i (pos 0)))
    → (i : ℕ) → slice_index_or words i 0 ≡ word_in (image_words image) i
words_at words image long wide each i = by_place (dec_le (suc i) 64)
  where
    by_place : Dec (i < 64) → slice_index_or words i 0 ≡ word_in (image_words image) i
    by_place (yes l) = each i l ∙ sym (encoded_at image i)
    by_place (no n) = past_end words i 0 (omega (arith, long)) ∙ sym (encoded_at image i ∙ ap encode (past_end image i (pos 0) (omega (arith, wide))))
