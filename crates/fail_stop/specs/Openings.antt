-- The list of words at the opening. The list depends on the number of frames, the kernel's words of the first frame,
-- and the areas and their keepers before that frame.
use Rattle.std.specs.Prelude.{ℕ, ◌-◌, ◌/◌, ◌%◌, ℤ, pos, List, slice_index, slice_index_or, Option, nat_eq, nat_lt, if◌then◌else◌}
use Rattle.scram_types.specs.declared.ids.ProcId.{ProcId}
use Rattle.bank_words.specs.Numbers.{encode}
use Rattle.scram_types.specs.Searches.{listed_below}
use Rattle.frame_model.specs.Flights.{is_proc}
use Rattle.frame_model.specs.States.{area_at, keeper_at}
use Rattle.fail_stop.specs.Listed.{word_index_count}

-- Word `i` of the start image of processor `p`, or 0 if `p` is not the keeper of the word's application.
abbrev pub start_word : List (List ℤ) → List (Option ProcId) → ℕ → ℕ → ℕ
start_word areas keepers p i =
    if is_proc p (keeper_at keepers (i / 8)) then encode (slice_index_or (area_at areas (i / 8)) (i % 8) (pos 0)) else 0

-- The opening value of word `r` among the words that processor `p` writes. Bank 0 holds the start image, and all
-- other words are 0.
abbrev pub proc_opening : List (List ℤ) → List (Option ProcId) → ℕ → ℕ → ℕ
proc_opening areas keepers p r =
    if nat_lt r 8 then 0 else (if nat_lt r 72 then start_word areas keepers p (r - 8) else 0)

-- The word at index `n` in the list of words at the opening.
abbrev pub opening_at : ℕ → List ℕ → List (List ℤ) → List (Option ProcId) → ℕ → ℕ
opening_at frames first areas keepers n =
    if nat_eq n 0 then (if nat_eq frames 0 then 0 else 1)
    else (if nat_lt n 8 then 0
    else (if nat_lt n 28 then slice_index first (n - 8)
    else proc_opening areas keepers ((n - 32) / 136) ((n - 32) % 136)))

-- The list of all words at the opening.
unfoldable pub opening_list : ℕ → List ℕ → List (List ℤ) → List (Option ProcId) → List ℕ
opening_list frames first areas keepers = listed_below (opening_at frames first areas keepers) word_index_count
