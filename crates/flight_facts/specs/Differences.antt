-- Differences between environments, in the names of a specification.
use Rattle.std.specs.Prelude.{ℕ, ◌==◌, ◌+◌, ◌%◌, ◌/◌, Bool, true, false, List, [], ◌∷◌, ◌++◌, slice_index, codes, if◌then◌else◌}
use Rattle.scram_types.specs.Lookups.{value_name}
use Rattle.scram_types.specs.Specification.{Parts}
use Rattle.scram_types.specs.declared.rows.Env.{Env}
use Rattle.scram_types.specs.declared.specification.Factor.{Factor}
use Rattle.scram_types.specs.declared.specification.Proc.{Proc}
use Rattle.trace_text.specs.Names.{further_joined, joined}

-- The text of a factor's change: the factor's name, `=` and the new value.
abbrev pub value_change : Factor → ℕ → List ℕ
value_change factor value = factor.name ++ codes "=" ++ value_name factor value

-- The factors whose values differ, each with its value in `after`. `i` is the index of the first factor.
abbrev pub values_changed : List Factor → ℕ → List ℕ → List ℕ → List (List ℕ)
values_changed [] i before after = []
values_changed (factor ∷ factors) i before after =
    if slice_index before i == slice_index after i then values_changed factors (i + 1) before after
    else value_change factor (slice_index after i) ∷ values_changed factors (i + 1) before after

-- The text of a processor's change: `+` if the lowest bit of `up` is 1, or else `-`, followed by the processor's
-- name.
abbrev pub proc_change : Proc → ℕ → List ℕ
proc_change proc up = (if up % 2 == 1 then codes "+" else codes "-") ++ proc.name

-- The processors whose states differ, each with its state in `after`. The lowest bit of both sets is the state of the
-- first processor.
abbrev pub procs_changed : List Proc → ℕ → ℕ → List (List ℕ)
procs_changed [] before after = []
procs_changed (proc ∷ procs) before after =
    if before % 2 == after % 2 then procs_changed procs (before / 2) (after / 2)
    else proc_change proc after ∷ procs_changed procs (before / 2) (after / 2)

-- The differences between two environments, in order: first the factors, then the processors.
abbrev pub differences : Parts → Env → Env → List (List ℕ)
differences spec before after = values_changed spec.factors 0 before.factors after.factors ++ procs_changed spec.procs before.up after.up

-- The text of the difference between two environments, or `-` if they do not differ.
abbrev pub difference_text : Parts → Env → Env → List ℕ
difference_text spec before after = joined (differences spec before after)

-- Whether a list of texts is not empty.
abbrev pub is_any : List (List ℕ) → Bool
is_any [] = false
is_any (text ∷ texts) = true

-- Whether two environments differ.
abbrev pub have_changed : Parts → Env → Env → Bool
have_changed spec before after = is_any (differences spec before after)

-- The texts of a list joined by commas, or the empty text if the list is empty.
abbrev pub comma_joined : List (List ℕ) → List ℕ
comma_joined [] = []
comma_joined (text ∷ texts) = text ++ further_joined texts

-- The texts of a list joined by commas. If `others` is `true`, other texts precede the list, and a comma also comes
-- before the first text.
abbrev pub comma_joined_after : Bool → List (List ℕ) → List ℕ
comma_joined_after others texts = if others then further_joined texts else comma_joined texts
