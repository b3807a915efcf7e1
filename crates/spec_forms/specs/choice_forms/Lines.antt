-- The lines that show the choices of a specification.
use Rattle.std.specs.Prelude.{ℕ, List, ◌++◌, slice_get, codes, decimal}
use Rattle.std.specs.Option.{option_map_or}
use Rattle.scram_types.specs.Lookups.{conf_name}
use Rattle.scram_types.specs.Specification.{Parts}
use Rattle.scram_types.specs.declared.rows.Env.{Env}
use Rattle.scram_types.specs.declared.ids.ConfId.{ConfId}
use Rattle.scram_types.specs.declared.specification.Choice.{Choice}
use Rattle.form_base.specs.Lines.{env_text}

-- The text of rule `k` and its target.
abbrev pub rule_to_text : Parts → ℕ → ConfId → List ℕ
rule_to_text spec k to = codes " rule " ++ decimal k ++ codes " to " ++ conf_name spec to.0

-- The text of rule `k` and its target, or the text ` no rule` if there is no such rule.
abbrev pub ruled_text : Parts → ℕ → List ℕ
ruled_text spec k = option_map_or (λ (rule : Choice). rule_to_text spec k rule.to) (slice_get spec.rules k) (codes " no rule")

-- The line of rule `k` and configuration `from`. `count` is the number of environments in scope in which the rule is
-- the first that fits, and `first` is the first of these environments. If there is no rule `k`, no rule fits in these
-- environments.
abbrev pub choice_line : Parts → ℕ → ℕ → ℕ → Env → List ℕ
choice_line spec from k count first =
    codes "choice " ++ conf_name spec from ++ ruled_text spec k ++ codes " in " ++ decimal count ++ codes ", first " ++ env_text spec first ++ codes "\n"
