-- Lemmas on images and words that are read one word after another.
use Rattle.std.proofs.Common.{◌≡◌, ◌∙◌, ℕ, ℤ, pos, ◌+◌, ◌<◌, ◌≤◌, sym, subst, arith, List, length}
use Rattle.std.specs.Prelude.{slice_index, slice_index_or, slice_set}
use Rattle.std.proofs.lemmas.Grind.{get_or-set_at}
use Rattle.std.proofs.lemmas.List.{get_or-set_other, length-set}
use native.Mathlib.Decide.{ℕ_discrete}
use Rattle.bank_words.specs.Numbers.{decode}
use Rattle.fail_stop.specs.Flights.{Flight}
use Rattle.word_table.specs.declared.actors.Actor.{Actor}
use Rattle.word_table.specs.Plays.{IsFound}
use Rattle.word_table.specs.Reading.{IsWordRead}

-- For each `i` from `from` up to but not including `n`, word `i` of an image is decoded from a word found at place
-- `at + i`.
pub record AreReadBelow (m : Flight) (actors : List Actor) (at from n : ℕ) (image : List ℤ) : Type 0 where
  pub long : length image ≡ 64
  pub read : (i : ℕ) → from ≤ i → i < n → IsWordRead m actors (at + i) (slice_index_or image i (pos 0))

pub none_read : (m : Flight) (actors : List Actor) (at from : ℕ) (image : List ℤ) → length image ≡ 64 → AreReadBelow m actors at from from image
none_read m actors at from image long = record { long = long; read = λ i above below. absurd (omega (arith, above, below)) }

pub one_read : (m : Flight) (actors : List Actor) (at from n : ℕ) (image : List ℤ) (w : ℕ) → AreReadBelow m actors at from n image → n < 64 → IsFound m actors (at + n) w
    → AreReadBelow m actors at from (n + 1) (slice_set image n (decode w))
one_read m actors at from n image w before low found = record {
  long = length-set image n (decode w) ∙ before.long;
  read = λ i above most. by_word i above most (ℕ_discrete i n);
} where
  by_word : (i : ℕ) → from ≤ i → i < n + 1 → Dec (i ≡ n) → IsWordRead m actors (at + i) (slice_index_or (slice_set image n (decode w)) i (pos 0))
  by_word i above most (yes d) = record { word = w; found = subst (λ k. IsFound m actors (at + k) w) (sym d) found; value = get_or-set_at image n i (decode w) (pos 0) d (omega (arith, low, before.long)) }
  by_word i above most (no d) =
      let r : IsWordRead m actors (at + i) (slice_index_or image i (pos 0)) = before.read i above (omega (arith, most, d)) in
      record { word = r.word; found = r.found; value = get_or-set_other image n i (decode w) (pos 0) d ∙ r.value }

-- If the first `to` kernel words were found at their places and the next word is found too, the first `to + 1` words
-- were found.
pub more_found : (m : Flight) (actors : List Actor) (to : ℕ) (words : List ℕ) (w : ℕ) → length words ≡ 20 → ((i : ℕ) → i < to → IsFound m actors (8 + i) (slice_index words i)) → to < 20 → IsFound m actors (8 + to) w
    → (i : ℕ) → i < to + 1 → IsFound m actors (8 + i) (slice_index (slice_set words to w) i)
more_found m actors to words w long before low found i most = by_place (ℕ_discrete i to)
  where
    by_place : Dec (i ≡ to) → IsFound m actors (8 + i) (slice_index (slice_set words to w) i)
    by_place (yes d) = subst (λ n. IsFound m actors (8 + i) n) (sym (get_or-set_at words to i w 0 d (omega (arith, low, long)))) (subst (λ k. IsFound m actors (8 + k) w) (sym d) found)
    by_place (no d) = subst (λ n. IsFound m actors (8 + i) n) (sym (get_or-set_other words to i w 0 d)) (before i (omega (arith, most, d)))
