-- The names of kinds, modes and variables. In a table of names, the entry at index `n` is the name of number `n`, or
-- `None` if the number has none.
use Rattle.std.specs.Prelude.{◌≡◌, ℕ, ◌<◌, ◌≤◌, ◌+◌, Bool, false, List, [], ◌∷◌, Option, Some, None, IsSome, map, slice_get, option_and_then, if◌then◌else◌}
use Rattle.std.specs.Option.{option_map_or}
use Rattle.std.specs.Str.{bytes_eq}
use Rattle.scram_types.specs.Specification.{modes_of_kind}
use Rattle.kind_table.specs.Kinds.{Kind, Variable, find_kind, kinds}

-- The table of the names of kinds.
abbrev pub kind_names : List (Option (List ℕ))
kind_names = map (λ (kind : Kind). Some kind.name) kinds

-- The table of the names of a kind's modes, which is empty if there is no such kind. Mode 0, off, has no name.
abbrev pub mode_names : ℕ → List (Option (List ℕ))
mode_names kind = option_map_or (λ (found : Kind). found.modes) (find_kind kind) []

-- The table of the names of the eight words of a kind's area, which is empty if there is no such kind. An unused word
-- has no name.
abbrev pub variable_names : ℕ → List (Option (List ℕ))
variable_names kind = option_map_or (λ (found : Kind). map (λ (variable : Variable). variable.name) found.variables) (find_kind kind) []

-- The name of `number` in a table, or `None` if the number has no name.
abbrev pub name_in : List (Option (List ℕ)) → ℕ → Option (List ℕ)
name_in names number = option_and_then (λ (name : Option (List ℕ)). name) (slice_get names number)

-- The name of a mode of a kind, or the empty text if the mode has no name.
abbrev pub mode_text : ℕ → ℕ → List ℕ
mode_text kind mode = option_map_or (λ (name : List ℕ). name) (name_in (mode_names kind) mode) []

-- Whether the entry of a table is a name that equals `text`.
abbrev pub is_spelled : Option (List ℕ) → List ℕ → Bool
is_spelled None text = false
is_spelled (Some name) text = bytes_eq name text

-- The number of the first entry with this text, or `None` if there is no such entry. The first entry of the list has
-- number `number`.
abbrev pub number_in_from : ℕ → List (Option (List ℕ)) → List ℕ → Option ℕ
number_in_from number [] text = None
number_in_from number (name ∷ names) text = if is_spelled name text then Some number else number_in_from (number + 1) names text

-- The first number with this name in a table, or `None` if there is no such number.
abbrev pub number_in : List (Option (List ℕ)) → List ℕ → Option ℕ
number_in names text = number_in_from 0 names text

-- The number `mode` is from 1 to `modes`. Such a number denotes a mode, other than off, of a kind with `modes` modes.
pub record IsModeNumber (mode modes : ℕ) : Type 0 where
  pub first : 1 ≤ mode
  pub last : mode ≤ modes

-- The look-ups from number to name and from name to number in the table agree.
pub record NamesAgree (names : List (Option (List ℕ))) : Type 0 where
  pub named : (number : ℕ) (text : List ℕ) → name_in names number ≡ Some text → number_in names text ≡ Some number
  pub spelled : (number : ℕ) (text : List ℕ) → number_in names text ≡ Some number → name_in names number ≡ Some text

-- The kind has a name. A number has a name as a mode if and only if it is the number of a mode of the kind. The
-- look-ups of modes agree, and so do the look-ups of variables. Each named variable is one of the eight words.
pub record KindIsNamed (kind : ℕ) : Type 0 where
  pub name : IsSome (name_in kind_names kind)
  pub modes : NamesAgree (mode_names kind)
  pub mode_named : (mode : ℕ) → IsModeNumber mode (modes_of_kind kind) → IsSome (name_in (mode_names kind) mode)
  pub mode_number : (text : List ℕ) (mode : ℕ) → number_in (mode_names kind) text ≡ Some mode → IsModeNumber mode (modes_of_kind kind)
  pub variables : NamesAgree (variable_names kind)
  pub variable_number : (text : List ℕ) (i : ℕ) → number_in (variable_names kind) text ≡ Some i → i < 8

-- The look-ups of the names and numbers of all kinds, modes and variables agree, and each kind is named.
pub record AllNamesAgree : Type 0 where
  pub kinds : NamesAgree kind_names
  pub kind_number : (text : List ℕ) (kind : ℕ) → number_in kind_names text ≡ Some kind → kind < 6
  pub each : (kind : ℕ) → kind < 6 → KindIsNamed kind
