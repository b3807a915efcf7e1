-- Images, and the kernel's words, read one word at a time.
use Rattle.std.specs.Prelude.{◌≡◌, ◌+◌, ◌<◌, ◌≤◌, ℕ, suc, ℤ, pos, List, [], ◌∷◌, length, slice_index_or}
use Rattle.bank_words.specs.Numbers.{decode}
use Rattle.fail_stop.specs.Flights.{Flight}
use Rattle.word_table.specs.declared.actors.Actor.{Actor}
use Rattle.word_table.specs.declared.actors.Actor.TheVariants.{Runs}
use Rattle.word_table.specs.Plays.{IsFound}

-- The only actor is a processor that has begun frame `f`.
pub record IsReader (m : Flight) (actors : List Actor) (f : ℕ) : Type 0 where
  pub proc : ℕ
  pub before : ℕ
  pub low : proc < m.procs
  pub alone : actors ≡ Runs proc f (suc before) ∷ []

-- `x` is the number that a word encodes, and this word may be found at place `i`.
pub record IsWordRead (m : Flight) (actors : List Actor) (i : ℕ) (x : ℤ) : Type 0 where
  pub word : ℕ
  pub found : IsFound m actors i word
  pub value : x ≡ decode word

-- For each `i` from `from` up to but not including `to`, word `i` of an image is decoded from a word found at place
-- `at + i`. The later words of the image are zero.
pub record AreRead (m : Flight) (actors : List Actor) (at from to : ℕ) (image : List ℤ) : Type 0 where
  pub long : length image ≡ 64
  pub read : (i : ℕ) → from ≤ i → i < to → IsWordRead m actors (at + i) (slice_index_or image i (pos 0))
  pub past : (i : ℕ) → to ≤ i → slice_index_or image i (pos 0) ≡ pos 0

-- The words of an image from index `from` up to but not including `to` have become zero. Those below `from` are as
-- before.
pub record AreCleared (from to : ℕ) (before after : List ℤ) : Type 0 where
  pub long : length after ≡ length before
  pub kept : (i : ℕ) → i < from → slice_index_or after i (pos 0) ≡ slice_index_or before i (pos 0)
  pub past : (i : ℕ) → from ≤ i → i < to → slice_index_or after i (pos 0) ≡ pos 0
