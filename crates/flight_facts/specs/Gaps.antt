-- Gaps: consecutive rows in which an application neither ran nor was off.
use Rattle.std.specs.Prelude.{ℕ, zero, suc, ◌+◌, Bool, true, false, List, [], ◌∷◌, ◌++◌, codes, decimal, nat_lt, Option, Some, None, if◌then◌else◌}
use Rattle.scram_types.specs.declared.rows.Row.{Row}
use Rattle.flight_facts.specs.Acts.{act_of, act_word}
use Rattle.flight_facts.specs.declared.acts.ActWord.{ActWord}
use Rattle.flight_facts.specs.declared.acts.ActWord.TheVariants.{Ran, Halting, Preparing, Initialising, Held, Off, Lost}
use Rattle.flight_facts.specs.declared.gaps.Gap.{Gap}

-- Whether the first word of an act means that the application neither ran nor was off.
abbrev pub is_missing : ActWord → Bool
is_missing Ran = false
is_missing Halting = true
is_missing Preparing = true
is_missing Initialising = true
is_missing Held = true
is_missing Off = false
is_missing Lost = true

-- The number of consecutive rows, from the first on, in which application `a` is missing.
abbrev pub missing_rows : ℕ → List Row → ℕ
missing_rows a [] = 0
missing_rows a (row ∷ rows) = if is_missing (act_word (act_of row a)) then missing_rows a rows + 1 else 0

-- The gap of a number of rows that begins with row `k`, or `None` if the number is 0.
abbrev pub gap_of : ℕ → ℕ → Option Gap
gap_of k zero = None
gap_of k (suc n) = Some (record { frames = suc n; at = k })

-- The longer of two optional gaps, or the first if they have the same length.
abbrev pub longer : Option Gap → Option Gap → Option Gap
longer None later = later
longer (Some gap) None = Some gap
longer (Some gap) (Some later) = if nat_lt gap.frames later.frames then Some later else Some gap

-- The longest gap of application `a`, or `None` if there is no gap. If several gaps are the longest, the value is the
-- first of them. `k` is the number of the first row of the list.
abbrev pub longest_gap : ℕ → ℕ → List Row → Option Gap
longest_gap a k [] = None
longest_gap a k (row ∷ rows) = longer (gap_of k (missing_rows a (row ∷ rows))) (longest_gap a (k + 1) rows)

-- The text ` gap FRAMES at ROW`. `FRAMES` is the number of rows of a gap, and `ROW` is the index of its first row. If
-- there is no gap, the text is ` gap 0 at -`.
abbrev pub gap_text : Option Gap → List ℕ
gap_text None = codes " gap 0 at -"
gap_text (Some gap) = codes " gap " ++ decimal gap.frames ++ codes " at " ++ decimal gap.at
