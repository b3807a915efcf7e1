-- The marks and images that are read off the words of a closed table.
use Rattle.std.specs.Prelude.{◌≡◌, ◌+◌, ◌%◌, ◌<◌, ◌≤◌, ℕ, ℤ, pos, List, [], length, replicate, slice_index, slice_index_or}
use Rattle.bank_words.specs.Numbers.{decode}
use Rattle.fail_stop.specs.Events.{BankWord, MarkWord}
use Rattle.fail_stop.specs.Listed.{index_of, stored_in}

-- An image has 64 words. The first `width` of them are stored from place `at` on, and the others are zero.
pub record IsStoredImage (list : List ℕ) (width at : ℕ) (image : List ℤ) : Type 0 where
  pub long : length image ≡ 64
  pub words : (i : ℕ) → i < width → slice_index_or image i (pos 0) ≡ decode (slice_index list (at + i))
  pub past : (i : ℕ) → width ≤ i → slice_index_or image i (pos 0) ≡ pos 0

-- `mark` is the mark of processor `p`, and `image` is stored in the bank that the mark names.
pub record AreLast (list : List ℕ) (width p mark : ℕ) (image : List ℤ) : Type 0 where
  pub mark_is : mark ≡ stored_in list (MarkWord p)
  pub image_is : IsStoredImage list width (index_of (BankWord p (mark % 2) 0)) image

-- A mark and an image are zero, since they belong to no processor.
abbrev pub AreZero : ℕ → List ℤ → Type 0
AreZero mark image = (mark ≡ 0) × (image ≡ replicate 64 (pos 0))

-- The marks and images from index `n` on are zero, since they belong to no processor.
abbrev pub AreZeroFrom : ℕ → List ℕ → List (List ℤ) → Type 0
AreZeroFrom n marks images = (p : ℕ) → n ≤ p → p < 8 → AreZero (slice_index marks p) (slice_index_or images p [])
