-- Lemmas on an image as eight slots, one after another.
use Rattle.std.proofs.Common.{◌≡◌, ◌∙◌, ℕ, ◌+◌, ◌*◌, ◌/◌, ◌%◌, ◌<◌, ◌≤◌, refl, ap, sym, arith, length, List, ◌++◌, get_or, true, false}
use native.Mathlib.Decide.{dec_le, ℕ_discrete}
use Rattle.std.specs.Prelude.{ℤ, pos, slice_index_or, if◌then◌else◌, nat_eq}
use Rattle.std.proofs.lemmas.Bool.Decides.{nat_tests}
use Rattle.std.proofs.lemmas.List.{ext_get_or, length-append}
use Rattle.scram_types.proofs.Eights.{eight_at, eight_same}
use Rattle.frame_model.specs.Flights.{image_of, slot_in}
use Rattle.frame_model.proofs.Slots.{slot_found}

-- Proof that an image has 64 words, and that word `8 * a + i` of the image is word `i` of slot `a`.

two_long : (xs ys : List ℤ) (n : ℕ) → length xs ≡ n → length ys ≡ 8 → length (xs ++ ys) ≡ n + 8
two_long xs ys n is also = length-append xs ys ∙ rw (is, also) refl

pub image_long : (slot : ℕ → List ℤ) → ((a : ℕ) → a < 8 → length (slot a) ≡ 8) → length (image_of slot) ≡ 64
image_long slot is =
    let one = two_long (slot 0) (slot 1) 8 (is 0 (omega arith)) (is 1 (omega arith)) in
    let two = two_long (slot 0 ++ slot 1) (slot 2) 16 one (is 2 (omega arith)) in
    let three = two_long (slot 0 ++ slot 1 ++ slot 2) (slot 3) 24 two (is 3 (omega arith)) in
    let four = two_long (slot 0 ++ slot 1 ++ slot 2 ++ slot 3) (slot 4) 32 three (is 4 (omega arith)) in
    let five = two_long (slot 0 ++ slot 1 ++ slot 2 ++ slot 3 ++ slot 4) (slot 5) 40 four (is 5 (omega arith)) in
    let six = two_long (slot 0 ++ slot 1 ++ slot 2 ++ slot 3 ++ slot 4 ++ slot 5) (slot 6) 48 five (is 6 (omega arith)) in
    two_long (slot 0 ++ slot 1 ++ slot 2 ++ slot 3 ++ slot 4 ++ slot 5 ++ slot 6) (slot 7) 56 six (is 7 (omega arith))

word_found : (slot : ℕ → List ℤ) → ((a : ℕ) → a < 8 → length (slot a) ≡ 8) → (a i : ℕ) → a < 8 → i < 8 → get_or (image_of slot) (8 * a + i) (pos 0) ≡ get_or (slot a) i (pos 0)
word_found slot is a i low small =
    sym (eight_at (λ j. slice_index_or (image_of slot) (8 * a + j) (pos 0)) i (pos 0) small) ∙ ap (λ (area : List ℤ). slice_index_or area i (pos 0)) (slot_found slot is a low)

-- An image is the concatenation of its slots.
pub of_slots : (image : List ℤ) → length image ≡ 64 → image ≡ image_of (slot_in image)
of_slots image long =
    ext_get_or (pos 0) image (image_of (slot_in image)) (long ∙ sym (image_long (slot_in image) (λ a low. refl)))
    (λ k low.
    let under : k < 64 = rw long at low in
    let place : 8 * (k / 8) + k % 8 ≡ k = omega arith in
    ap (λ (j : ℕ). get_or image j (pos 0)) (sym place)
    ∙ sym (eight_at (λ i. slice_index_or image (8 * (k / 8) + i) (pos 0)) (k % 8) (pos 0) (omega arith))
    ∙ sym (word_found (slot_in image) (λ a low. refl) (k / 8) (k % 8) (omega arith) (omega arith))
    ∙ ap (λ (j : ℕ). get_or (image_of (slot_in image)) j (pos 0)) place)

-- Two images with equal slots are equal.
pub image_same : (slot other : ℕ → List ℤ) → ((a : ℕ) → a < 8 → slot a ≡ other a) → image_of slot ≡ image_of other
image_same slot other same =
    rw (
      same 0 (omega arith),
      same 1 (omega arith),
      same 2 (omega arith),
      same 3 (omega arith),
      same 4 (omega arith),
      same 5 (omega arith),
      same 6 (omega arith),
      same 7 (omega arith),
    ) refl

-- In `image`, the first `n` words of the slot of application `a` are those of `area`, and the other slots are those
-- of `old`.
pub record IsPut (a n : ℕ) (area old image : List ℤ) : Type 0 where
  pub long : length image ≡ 64
  pub put : (i : ℕ) → i < n → slice_index_or image (8 * a + i) (pos 0) ≡ slice_index_or area i (pos 0)
  pub lower : (k : ℕ) → k < 8 * a → slice_index_or image k (pos 0) ≡ slice_index_or old k (pos 0)
  pub upper : (k : ℕ) → 8 * a + 8 ≤ k → slice_index_or image k (pos 0) ≡ slice_index_or old k (pos 0)

pub all_put : (a : ℕ) (area old image : List ℤ) → length area ≡ 8 → IsPut a 8 area old image → (b : ℕ) → b < 8 → slot_in image b ≡ (if nat_eq b a then area else slot_in old b)
all_put a area old image long put b low = by_place (ℕ_discrete b a)
  where
    by_place : Dec (b ≡ a) → slot_in image b ≡ (if nat_eq b a then area else slot_in old b)
    by_place (yes d) =
        let same : nat_eq b a ≡ true = grind (arith, nat_tests, d) in
        rw (same, d) (ext_get_or (pos 0) (slot_in image a) area (sym long) (λ k small. eight_at (λ i. slice_index_or image (8 * a + i) (pos 0)) k (pos 0) small ∙ put.put k small))
    by_place (no d) =
        let other : nat_eq b a ≡ false = grind (arith, nat_tests, d) in
        rw other (eight_same (λ i. slice_index_or image (8 * b + i) (pos 0)) (λ i. slice_index_or old (8 * b + i) (pos 0)) (λ i small. by_side i small (dec_le a b)))
      where
        by_side : (i : ℕ) → i < 8 → Dec (a ≤ b) → slice_index_or image (8 * b + i) (pos 0) ≡ slice_index_or old (8 * b + i) (pos 0)
        by_side i small (yes e) = put.upper (8 * b + i) (omega (arith, d, e))
        by_side i small (no e) = put.lower (8 * b + i) (omega (arith, e, small))
