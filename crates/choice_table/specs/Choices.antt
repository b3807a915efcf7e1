-- The configuration that the choice table chooses, and the configurations that can run.
use Rattle.std.specs.Prelude.{◌≡◌, ℕ, Bool, true, ◌&&◌, ◌==◌, List, [], ◌∷◌, slice_get, Option, Some, None, bit_and, if◌then◌else◌}
use Rattle.std.specs.Option.{option_map_or}
use Rattle.std.specs.List.{list_all, list_any}
use Rattle.scram_types.specs.declared.ids.ConfId.{ConfId}
use Rattle.scram_types.specs.declared.rows.Env.{Env}
use Rattle.scram_types.specs.declared.specification.Place.{Place}
use Rattle.scram_types.specs.declared.specification.Conf.{Conf}
use Rattle.scram_types.specs.declared.specification.Want.{Want}
use Rattle.scram_types.specs.declared.specification.Choice.{Choice}
use Rattle.scram_types.specs.Specification.{Parts}
use Rattle.choice_table.specs.Environments.{IsEnv, factor_in, in_scope, is_up_in}

-- Whether the source of a rule is `c` or the rule has no source.
abbrev pub has_source : Option ConfId → ConfId → Bool
has_source None c = true
has_source (Some from) c = from.0 == c.0

-- Whether environment `v` has the required value of a factor.
abbrev pub has_wanted : Env → Want → Bool
has_wanted v want = factor_in v want.factor.0 == want.value

-- Whether each processor of a set is up in an environment.
abbrev pub all_up : ℕ → Env → Bool
all_up set v = bit_and set v.up == set

-- Whether a rule fits configuration `c` and environment `v`. The rule's source is `c` or the rule has no source.
-- Environment `v` has each value that the rule requires, and each processor that the rule requires is up in `v`.
abbrev pub rule_fits : ConfId → Env → Choice → Bool
rule_fits c v rule = has_source rule.from c && list_all (has_wanted v) rule.wants && all_up rule.up v

-- The target of the first rule of a list that fits configuration `c` and environment `v`, or `c` if no rule fits.
abbrev pub target_among : List Choice → ConfId → Env → ConfId
target_among [] c v = c
target_among (rule ∷ rules) c v = if rule_fits c v rule then rule.to else target_among rules c v

-- The configuration that the choice table chooses from configuration `c` in environment `v`: the target of the first
-- rule that fits, or `c` if no rule fits.
abbrev pub choose : Parts → ConfId → Env → ConfId
choose spec c v = target_among spec.rules c v

-- Whether some rule fits configuration `c` and environment `v`.
abbrev pub has_rule : Parts → ConfId → Env → Bool
has_rule spec c v = list_any (rule_fits c v) spec.rules

-- The places of a configuration's applications, in order. The list is empty if there is no such configuration.
abbrev pub places_of : Parts → ConfId → List (Option Place)
places_of spec c = option_map_or (λ (conf : Conf). conf.places) (slice_get spec.confs c.0) []

-- Whether the processor of an optional place is up in an environment. If the place is `None`, the application is off
-- and the value is `true`.
abbrev pub is_place_up : Env → Option Place → Bool
is_place_up v None = true
is_place_up v (Some place) = is_up_in v place.proc.0

-- Whether each processor that configuration `c` uses is up in an environment. A configuration that does not exist
-- uses no processor.
abbrev pub is_runnable : Parts → ConfId → Env → Bool
is_runnable spec c v = list_all (is_place_up v) (places_of spec c)

-- Configuration `j` is a possible target of `i`: the table chooses `j` from `i` in some environment in scope.
pub record IsTarget (spec : Parts) (i j : ConfId) : Type 0 where
  pub seen : Env
  pub belongs : IsEnv spec seen
  pub scope : in_scope spec seen ≡ true
  pub chosen : choose spec i seen ≡ j
