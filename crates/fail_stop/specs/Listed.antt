-- The shared words, kept in one list.
use Rattle.std.specs.Prelude.{◌≡◌, ℕ, ◌+◌, ◌*◌, ◌≤◌, List, length, Option, Some, None, slice_index, slice_set}
use Rattle.fail_stop.specs.Flights.{Flight}
use Rattle.bank_words.specs.declared.events.Event.{Event}
use Rattle.fail_stop.specs.Events.{Places, Word, ReleaseWord, KernelWord, MarkWord, EndWord, BankWord, proc_after, frame_after, step_after}

-- The index of a word, for at most 8 processors and 64 words per bank. The release has a cache line of 64 bytes to
-- itself. The words that one processor writes share no cache line with other words.
abbrev pub index_of : Word → ℕ
index_of ReleaseWord = 0
index_of (KernelWord i) = 8 + i
index_of (MarkWord p) = 32 + 136 * p
index_of (EndWord p) = 33 + 136 * p
index_of (BankWord p b i) = 40 + 136 * p + 64 * b + i

-- The number of entries in the list of shared words.
abbrev pub word_index_count : ℕ
word_index_count = 1120

-- The value of a word that is kept in a list.
abbrev pub stored_in : List ℕ → Word → ℕ
stored_in list w = slice_index list (index_of w)

-- The list of words after an optional write.
abbrev pub list_after : List ℕ → Option (Word × ℕ) → List ℕ
list_after list None = list
list_after list (Some t) = slice_set list (index_of t.0) t.1

-- A list has an entry for each word of a flight.
pub record HoldsWords (m : Flight) (list : List ℕ) : Type 0 where
  pub procs : m.procs ≤ 8
  pub width : m.width ≤ 64
  pub long : length list ≡ word_index_count

-- Event `e` takes the machine from places `at` to places `at2`. Only the place of its actor changes.
pub record Moves (m : Flight) (at : Places) (e : Event) (at2 : Places) : Type 0 where
  pub proc : (q : ℕ) → at2.proc q ≡ proc_after m at e q
  pub frame : at2.frame ≡ frame_after at e
  pub step : at2.step ≡ step_after at e
