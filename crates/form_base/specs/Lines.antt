-- The lines of refusals that several forms print, and the parts of these lines.
use Rattle.std.specs.Prelude.{ℕ, ◌==◌, ◌+◌, ◌%◌, ◌/◌, List, [], ◌∷◌, ◌++◌, length, slice_get, slice_index, Option, Some, None, codes, decimal, if◌then◌else◌}
use Rattle.std.specs.Option.{option_map_or}
use Rattle.scram_types.specs.Lookups.{app_name, conf_name, proc_name, value_name}
use Rattle.scram_types.specs.Specification.{Parts}
use Rattle.scram_types.specs.declared.rows.Env.{Env}
use Rattle.scram_types.specs.declared.rows.Report.{Report}
use Rattle.scram_types.specs.declared.rows.Row.{Row}
use Rattle.scram_types.specs.declared.demands.Demand.{Demand}
use Rattle.scram_types.specs.declared.specification.Factor.{Factor}
use Rattle.scram_types.specs.declared.specification.Proc.{Proc}
use Rattle.scram_doc.specs.Paths.{shown as path_text}
use Rattle.spec_reading.specs.declared.fault.SpecFault.{SpecFault}
use Rattle.coverage_check.specs.declared.shown.Shown.{Shown}
use Rattle.coverage_check.specs.declared.shown.Other.{Other}
use Rattle.coverage_check.specs.declared.shown.Other.TheVariants as other
use Rattle.trace_text.specs.Names.{conf_or_dash, further_joined}

-- The text of the number of a broken rule, and of the path at which the rule is broken.
abbrev pub rule_text : ℕ → List ℕ → List ℕ
rule_text rule path = codes " rule " ++ decimal rule ++ codes " at " ++ path_text path

-- The text that names the applications in a cycle of needs, or the empty text if the list of names is empty.
abbrev pub cycle_text : List (List ℕ) → List ℕ
cycle_text [] = []
cycle_text (name ∷ names) = codes " cycle " ++ name ++ further_joined names

-- The line of the refusal of a specification document that breaks a rule.
abbrev pub specification_line : SpecFault → List ℕ
specification_line fault =
    codes "refused: specification" ++ rule_text fault.rule fault.path ++ cycle_text fault.names.items ++ codes "\n"

-- The text of the factors with their values, each followed by a comma. The first factor has the number `i`, and
-- `values` has the values of the factors by number.
abbrev pub factors_text : List Factor → ℕ → List ℕ → List ℕ
factors_text [] i values = []
factors_text (factor ∷ factors) i values =
    factor.name ++ codes "=" ++ value_name factor (slice_index values i) ++ codes "," ++ factors_text factors (i + 1) values

-- The names of the processors whose bits are clear in `up`. The lowest bit belongs to the first processor.
abbrev pub names_down : List Proc → ℕ → List (List ℕ)
names_down [] up = []
names_down (proc ∷ procs) up = if up % 2 == 1 then names_down procs (up / 2) else proc.name ∷ names_down procs (up / 2)

-- The names, each preceded by a plus.
abbrev pub further_added : List (List ℕ) → List ℕ
further_added [] = []
further_added (name ∷ names) = codes "+" ++ name ++ further_added names

-- The names joined by pluses, or `-` if there are none.
abbrev pub added : List (List ℕ) → List ℕ
added [] = codes "-"
added (name ∷ names) = name ++ further_added names

-- The text of an environment: each factor with its value, and the names of the processors that are down.
abbrev pub env_text : Parts → Env → List ℕ
env_text spec env = factors_text spec.factors 0 env.factors ++ codes "down=" ++ added (names_down spec.procs env.up)

-- The text of an environment, or `-` if there is none.
abbrev pub env_or_dash : Parts → Option Env → List ℕ
env_or_dash spec None = codes "-"
env_or_dash spec (Some env) = env_text spec env

-- The name of demand `k`, or the empty text if there is no such demand.
abbrev pub demand_name : Parts → ℕ → List ℕ
demand_name spec k = option_map_or (λ (demand : Demand). demand.name) (slice_get spec.demands k) []

-- The text of the application, processor or other part at which a condition is broken, besides the configuration and
-- the environment, or `-` if there is no such part.
abbrev pub other_text : Parts → Other → List ℕ
other_text spec other.Nothing = codes "-"
other_text spec (other.App app) = app_name spec app.0
other_text spec (other.Proc proc) = proc_name spec proc.0
other_text spec (other.Conf conf) = conf_name spec conf.0
other_text spec (other.Count count) = decimal count
other_text spec (other.Least target frames) = conf_name spec target.0 ++ codes ":" ++ decimal frames
other_text spec (other.Item place) = decimal place
other_text spec (other.Demand place) = demand_name spec place

-- The line of the refusal of a specification that is not accepted.
abbrev pub shown_line : Parts → Shown → List ℕ
shown_line spec shown =
    codes "refused: A" ++ decimal shown.condition ++ codes " " ++ conf_or_dash spec shown.conf ++ codes " "
    ++ env_or_dash spec shown.env ++ codes " " ++ other_text spec shown.other ++ codes "\n"

-- The text of the number of frames and the number of reconfigurations, including an unfinished one.
abbrev pub counts_text : List Row → List Report → List ℕ
counts_text rows reports = codes " frames " ++ decimal (length rows) ++ codes " reconfigurations " ++ decimal (length reports)
