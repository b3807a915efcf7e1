-- The names that appear in the text of a trace.
use Rattle.scram_types.specs.Lookups.{value_name, conf_name}
use Rattle.std.specs.Prelude.{ℕ, ◌==◌, ◌+◌, ◌%◌, ◌/◌, List, [], ◌∷◌, ◌++◌, slice_index, Option, Some, None, codes, if◌then◌else◌}
use Rattle.scram_types.specs.Specification.{Parts}
use Rattle.scram_types.specs.declared.ids.ConfId.{ConfId}
use Rattle.scram_types.specs.declared.specification.Factor.{Factor}
use Rattle.scram_types.specs.declared.specification.Proc.{Proc}

-- The name of a configuration, or `-` if there is none.
abbrev pub conf_or_dash : Parts → Option ConfId → List ℕ
conf_or_dash spec None = codes "-"
conf_or_dash spec (Some c) = conf_name spec c.0

-- The names of a list, each preceded by a comma.
abbrev pub further_joined : List (List ℕ) → List ℕ
further_joined [] = []
further_joined (name ∷ names) = codes "," ++ name ++ further_joined names

-- The names joined by commas, or `-` if there are none.
abbrev pub joined : List (List ℕ) → List ℕ
joined [] = codes "-"
joined (name ∷ names) = name ++ further_joined names

-- For each of these factors, the name of the factor's value. `i` is the number of the first of these factors, and the
-- list has the values of all factors.
abbrev pub values_named : List Factor → ℕ → List ℕ → List (List ℕ)
values_named [] i values = []
values_named (factor ∷ factors) i values = value_name factor (slice_index values i) ∷ values_named factors (i + 1) values

-- The names of the processors whose bits are set in `up`. The lowest bit belongs to the first processor.
abbrev pub names_up : List Proc → ℕ → List (List ℕ)
names_up [] up = []
names_up (proc ∷ procs) up = if up % 2 == 1 then proc.name ∷ names_up procs (up / 2) else names_up procs (up / 2)
