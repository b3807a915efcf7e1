-- The laws that state which rules, configurations and demands are shown as idle.
use Rattle.std.specs.Prelude.{◌≡◌, ◌≢◌, ◌⊎◌, ℕ, ◌<◌, true, false, length, slice_get, Some}
use Rattle.scram_types.specs.Specification.{IsSpec, Parts}
use Rattle.scram_types.specs.declared.rows.Env.{Env}
use Rattle.scram_types.specs.declared.ids.ConfId.{ConfId}
use Rattle.scram_types.specs.declared.specification.Choice.{Choice}
use Rattle.scram_types.specs.declared.demands.Demand.{Demand}
use Rattle.choice_table.specs.Choices.{IsTarget, rule_fits}
use Rattle.choice_table.specs.Demands.{applies_in}
use Rattle.choice_table.specs.Environments.{IsEnv, in_scope}
use Rattle.idle_parts.specs.Choices.{is_conf_idle, is_rule_idle}
use Rattle.idle_parts.specs.Wants.{is_demand_idle}

-- Rule `k` fits configuration `c` in environment `v`, and no earlier rule does.
pub record IsFirstFit (spec : Parts) (k : ℕ) (rule : Choice) (c : ConfId) (v : Env) : Type 0 where
  pub fits : rule_fits c v rule ≡ true
  pub before : (j : ℕ) (earlier : Choice) → j < k → slice_get spec.rules j ≡ Some earlier → rule_fits c v earlier ≡ false

-- There are a configuration and an environment in scope for which rule `k` is the first that fits.
pub record IsFirstSomewhere (spec : Parts) (k : ℕ) (rule : Choice) : Type 0 where
  pub c : ConfId
  pub known : c.0 < length spec.confs
  pub v : Env
  pub belongs : IsEnv spec v
  pub scope : in_scope spec v ≡ true
  pub first : IsFirstFit spec k rule c v

-- Rule `k` is idle if and only if there is no configuration and no environment in scope for which the rule is the
-- first that fits.
pub record IdleRuleIsExact (spec : Parts) (k : ℕ) (rule : Choice) : Type 0 where
  pub idle : is_rule_idle spec k ≡ true
      → (c : ConfId) (v : Env) → c.0 < length spec.confs → IsEnv spec v → in_scope spec v ≡ true → IsFirstFit spec k rule c v → ⊥
  pub used : is_rule_idle spec k ≡ false → IsFirstSomewhere spec k rule

-- Each rule is shown as idle if and only if it is not the first that fits for any configuration in any environment in
-- scope.
abbrev pub IdleRulesAreExact : Type 0
IdleRulesAreExact = (spec : Parts) (k : ℕ) (rule : Choice) → IsSpec spec → slice_get spec.rules k ≡ Some rule → IdleRuleIsExact spec k rule

-- Configuration `c` is idle if and only if it is neither the start nor a possible target of another configuration.
pub record IdleConfIsExact (spec : Parts) (c : ConfId) : Type 0 where
  pub idle : is_conf_idle spec c.0 ≡ true
      → (spec.start.0 ≢ c.0) × ((i : ConfId) → i.0 < length spec.confs → i.0 ≢ c.0 → IsTarget spec i c → ⊥)
  pub used : is_conf_idle spec c.0 ≡ false
      → (spec.start.0 ≡ c.0) ⊎ ((i : ConfId) × (i.0 < length spec.confs) × (i.0 ≢ c.0) × IsTarget spec i c)

-- Each configuration is shown as idle if and only if it is neither the start nor a possible target of another
-- configuration.
abbrev pub IdleConfsAreExact : Type 0
IdleConfsAreExact = (spec : Parts) (c : ConfId) → IsSpec spec → IdleConfIsExact spec c

-- A demand applies to some environment in scope.
pub record SpeaksSomewhere (spec : Parts) (demand : Demand) : Type 0 where
  pub v : Env
  pub belongs : IsEnv spec v
  pub scope : in_scope spec v ≡ true
  pub speaks : applies_in demand v ≡ true

-- A demand is idle if and only if it applies to no environment in scope.
pub record IdleDemandIsExact (spec : Parts) (demand : Demand) : Type 0 where
  pub idle : is_demand_idle spec demand ≡ true → (v : Env) → IsEnv spec v → in_scope spec v ≡ true → applies_in demand v ≡ false
  pub used : is_demand_idle spec demand ≡ false → SpeaksSomewhere spec demand

-- Each demand is shown as idle if and only if it applies to no environment in scope.
abbrev pub IdleDemandsAreExact : Type 0
IdleDemandsAreExact = (spec : Parts) (demand : Demand) → IsSpec spec → IdleDemandIsExact spec demand
