-- Lemmas on the marks and images that are read off a closed table, one processor after another.
use Rattle.std.proofs.Common.{◌≡◌, ◌∙◌, ℕ, zero, suc, ℤ, pos, ◌+◌, ◌<◌, ◌≤◌, refl, sym, ap, arith, List, [], ◌∷◌, ◌++◌, length}
use Rattle.std.specs.Prelude.{Some, replicate, slice_get, slice_index, slice_index_or, slice_set}
use Rattle.std.proofs.lemmas.Grind.{get_or-set_at}
use Rattle.std.proofs.lemmas.List.{get_or-set_other, length-set}
use mathlib.Core.Option.{some, some-injective, some-ne-none}
use native.Mathlib.Decide.{ℕ_discrete}
use lib.ListN.{get_elem?}
use Rattle.bank_words.specs.Numbers.{decode}
use Rattle.word_table.specs.declared.seats.Seat.{Seat}
use Rattle.word_table.specs.Closing.{AreLast, AreZero, IsStoredImage}

pub index_is : (l : List ℕ) (i w : ℕ) → get_elem? l i ≡ some w → slice_index l i ≡ w
index_is [] i w there = absurd (some-ne-none w (sym there))
index_is (x ∷ l) zero w there = some-injective x w there
index_is (x ∷ l) (suc i) w there = index_is l i w there

pub zeros_at : (n i : ℕ) → slice_index_or (replicate n (pos 0)) i (pos 0) ≡ pos 0
zeros_at zero i = refl
zeros_at (suc n) zero = refl
zeros_at (suc n) (suc i) = zeros_at n i

pub none_stored : (list : List ℕ) (at : ℕ) → IsStoredImage list 0 at (replicate 64 (pos 0))
none_stored list at = record { long = refl; words = λ i low. absurd (omega (arith, low)); past = λ i least. zeros_at 64 i }

pub one_stored : (list : List ℕ) (to at : ℕ) (image : List ℤ) (w : ℕ) → IsStoredImage list to at image → to < 64 → get_elem? list (at + to) ≡ some w → IsStoredImage list (to + 1) at (slice_set image to (decode w))
one_stored list to at image w stored low there = record {
  long = length-set image to (decode w) ∙ stored.long;
  words = λ i most. by_word i most (ℕ_discrete i to);
  past = λ i least. get_or-set_other image to i (decode w) (pos 0) (λ same. omega (arith, same, least)) ∙ stored.past i (omega (arith, least));
} where
  by_word : (i : ℕ) → i < to + 1 → Dec (i ≡ to) → slice_index_or (slice_set image to (decode w)) i (pos 0) ≡ decode (slice_index list (at + i))
  by_word i most (yes d) = get_or-set_at image to i (decode w) (pos 0) d (omega (arith, low, stored.long)) ∙ ap decode (sym (index_is list (at + to) w there)) ∙ ap (λ k. decode (slice_index list (at + k))) (sym d)
  by_word i most (no d) = get_or-set_other image to i (decode w) (pos 0) d ∙ stored.words i (omega (arith, most, d))

pub one_last : (list : List ℕ) (width p : ℕ) (marks : List ℕ) (images : List (List ℤ)) (mark : ℕ) (image : List ℤ) → length marks ≡ 8 → length images ≡ 8 → p < 8
    → ((q : ℕ) → q < p → AreLast list width q (slice_index marks q) (slice_index_or images q [])) → AreLast list width p mark image
    → (q : ℕ) → q < p + 1 → AreLast list width q (slice_index (slice_set marks p mark) q) (slice_index_or (slice_set images p image) q [])
one_last list width p marks images mark image long longer low before last q most = by_place (ℕ_discrete q p)
  where
    by_place : Dec (q ≡ p) → AreLast list width q (slice_index (slice_set marks p mark) q) (slice_index_or (slice_set images p image) q [])
    by_place (yes d) =
        let at_mark : slice_index (slice_set marks p mark) q ≡ mark = get_or-set_at marks p q mark 0 d (omega (arith, low, long)) in
        let at_image : slice_index_or (slice_set images p image) q [] ≡ image = get_or-set_at images p q image [] d (omega (arith, low, longer)) in
        rw (at_mark, at_image, d) last
    by_place (no d) =
        let at_mark : slice_index (slice_set marks p mark) q ≡ slice_index marks q = get_or-set_other marks p q mark 0 d in
        let at_image : slice_index_or (slice_set images p image) q [] ≡ slice_index_or images q [] = get_or-set_other images p q image [] d in
        rw (at_mark, at_image) (before q (omega (arith, most, d)))

-- If the marks and images from index `p` on are zero, those from index `p + 1` on stay zero when entry `p` is set.
pub unused_stay_zero : (p : ℕ) (marks : List ℕ) (images : List (List ℤ)) (mark : ℕ) (image : List ℤ) → ((q : ℕ) → p ≤ q → q < 8 → AreZero (slice_index marks q) (slice_index_or images q []))
    → (q : ℕ) → p + 1 ≤ q → q < 8 → AreZero (slice_index (slice_set marks p mark) q) (slice_index_or (slice_set images p image) q [])
unused_stay_zero p marks images mark image before q least most =
    let other : ¬ (q ≡ p) = λ same. omega (arith, same, least) in
    let was = before q (omega (arith, least)) most in (
      get_or-set_other marks p q mark 0 other ∙ was.0,
      get_or-set_other images p q image [] other ∙ was.1,
    )

-- If an iterator over a list has yielded `n` items, the item that it yields next is the item of the list at index
-- `n`.
at_front : (l rest : List Seat) (x : Seat) → slice_get (l ++ x ∷ rest) (length l) ≡ Some x
at_front [] rest x = refl
at_front (y ∷ l) rest x = at_front l rest x

pub item_is : (seats yielded left rest : List Seat) (x : Seat) → yielded ++ left ≡ seats → left ≡ x ∷ rest → slice_get seats (length yielded) ≡ Some x
item_is seats yielded left rest x all is = rw (← all, is) (at_front yielded rest x)
