-- The factors and demands that are idle, since they have no effect.
use Rattle.std.specs.Prelude.{ℕ, Bool, not, ◌&&◌, ◌==◌, nat_lt, length}
use Rattle.std.specs.List.{list_any}
use Rattle.scram_types.specs.Lookups.{kind_of_app}
use Rattle.scram_types.specs.Searches.{any_below}
use Rattle.scram_types.specs.Specification.{Parts}
use Rattle.scram_types.specs.declared.specification.Choice.{Choice}
use Rattle.scram_types.specs.declared.demands.Demand.{Demand}
use Rattle.scram_types.specs.declared.specification.Want.{Want}
use Rattle.kind_table.specs.declared.kinds.power_monitor.TheConstants.{KIND as POWER_MONITOR}
use Rattle.choice_table.specs.Demands.{applies_in}
use Rattle.idle_parts.specs.declared.wants.TheConstants.{POWER_FACTORS}
use Rattle.idle_parts.specs.Places.{is_app_placed}
use Rattle.idle_parts.specs.Somewhere.{passes_somewhere}

-- Whether a rule requires a value of factor `x`.
abbrev pub any_wants_factor : ℕ → Choice → Bool
any_wants_factor x rule = list_any (λ (want : Want). want.factor.0 == x) rule.wants

-- Whether some rule requires a value of factor `x`.
abbrev pub is_factor_wanted : Parts → ℕ → Bool
is_factor_wanted spec x = list_any (any_wants_factor x) spec.rules

-- Whether application `a` is a power monitor that some configuration places.
abbrev pub is_placed_monitor : Parts → ℕ → Bool
is_placed_monitor spec a = kind_of_app spec a == POWER_MONITOR && is_app_placed spec a

-- Whether factor `x` supplies power and some configuration places a power monitor, which reads the factor.
abbrev pub is_supply_read : Parts → ℕ → Bool
is_supply_read spec x = nat_lt x POWER_FACTORS && any_below (is_placed_monitor spec) (length spec.apps)

-- Whether no rule requires a value of factor `x`, and the factor is not a power supply that a placed application
-- reads. Values that demands require are ignored.
abbrev pub is_factor_idle : Parts → ℕ → Bool
is_factor_idle spec x = not (is_factor_wanted spec x) && not (is_supply_read spec x)

-- Whether a demand applies to no environment in scope.
abbrev pub is_demand_idle : Parts → Demand → Bool
is_demand_idle spec demand = not (passes_somewhere spec (applies_in demand))
