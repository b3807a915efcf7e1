-- Splitting bytes into pieces: a file into lines, a line into words, a list into names.
use Rattle.std.specs.Prelude.{ℕ, ◌==◌, ◌&&◌, Bool, List, [], ◌∷◌, Option, Some, None, length, nat_le, nat_lt, slice_index_or, bytes_eq, codes, if◌then◌else◌}
use Rattle.std.specs.List.{slice_split, list_all}

-- The pieces of `bytes` between separators. There is at least one piece.
abbrev pub pieces_of : ℕ → List ℕ → List (List ℕ)
pieces_of separator bytes = slice_split (λ (b : ℕ). b == separator) bytes

-- The pieces of the bytes after a separator, or no pieces if there is no separator.
abbrev pub pieces_left : ℕ → Option (List ℕ) → List (List ℕ)
pieces_left separator None = []
pieces_left separator (Some behind) = pieces_of separator behind

-- The words of a line. Words are separated by single spaces.
abbrev pub words_of : List ℕ → List (List ℕ)
words_of line = pieces_of 32 line

-- Whether the word is not empty.
abbrev pub is_filled : List ℕ → Bool
is_filled word_at = nat_lt 0 (length word_at)

-- The words of a line, or `None` if a word is empty or there are more than 16 words.
abbrev pub words_in : List ℕ → Option (List (List ℕ))
words_in line = if nat_le (length (words_of line)) 16 && list_all is_filled (words_of line) then Some (words_of line) else None

-- The word at index `k`, or the empty word if there is none.
abbrev pub word_at : List (List ℕ) → ℕ → List ℕ
word_at words k = slice_index_or words k []

-- Whether the word at index `k` is `text`.
abbrev pub is_word : List (List ℕ) → ℕ → List ℕ → Bool
is_word words k text = bytes_eq (word_at words k) text

-- The two pieces of a word that is split at its slashes, or `None` if there are not exactly two pieces.
abbrev pub sides : List (List ℕ) → Option (List ℕ × List ℕ)
sides (left ∷ right ∷ []) = Some (left, right)
sides (left ∷ right ∷ other ∷ more) = None
sides (left ∷ []) = None
sides [] = None

-- The texts before and after the slash of a word with exactly one slash, or `None` for any other word.
abbrev pub sides_of : List ℕ → Option (List ℕ × List ℕ)
sides_of word_at = sides (pieces_of 47 word_at)

-- The names in a list that is separated by commas. The text `-` is the empty list.
abbrev pub items_of : List ℕ → List (List ℕ)
items_of list = if bytes_eq list (codes "-") then [] else pieces_of 44 list
