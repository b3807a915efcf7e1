-- The demands that the choice table misses.
use Rattle.std.specs.Prelude.{◌≡◌, ℕ, Bool, not, ◌&&◌, List, length, slice_get, Option, Some}
use Rattle.scram_types.specs.declared.ids.ConfId.{ConfId}
use Rattle.scram_types.specs.declared.rows.Env.{Env}
use Rattle.scram_types.specs.declared.demands.Demand.{Demand}
use Rattle.scram_types.specs.Bits.{has_bit}
use Rattle.scram_types.specs.Specification.{Parts}
use Rattle.choice_table.specs.Choices.{choose}
use Rattle.choice_table.specs.Demands.{applies_from, applies_in, is_met}
use Rattle.cube_cover.specs.Covers.{IsLeastEnv}

-- Whether the table misses a demand from configuration `i` in an environment: the demand applies to the environment
-- and to `i`, and the chosen configuration does not meet the demand.
abbrev pub misses : Parts → Demand → ConfId → Env → Bool
misses spec demand i v = applies_from demand i && applies_in demand v && not (is_met spec demand (choose spec i v))

-- For each demand, `found` contains the first environment in scope, by number, in which the table misses the demand
-- from configuration `i`, or `None` if there is no such environment.
pub record AreMisses (spec : Parts) (i : ConfId) (found : List (Option Env)) : Type 0 where
  pub all : length found ≡ length spec.demands
  pub least : (k : ℕ) (demand : Demand) (env : Option Env) → slice_get spec.demands k ≡ Some demand → slice_get found k ≡ Some env
      → IsLeastEnv spec (misses spec demand i) env

-- Whether configuration `c` is not in a set of configurations, given as bits.
abbrev pub is_outside : ℕ → ℕ → Bool
is_outside set c = not (has_bit set c)
