-- The condition A13: the demands that the choice table must meet in each environment in scope.
use Rattle.std.specs.Prelude.{ℕ, List, length, slice_get, Option, None, option_map, option_and_then}
use Rattle.std.specs.Option.{option_map_or}
use Rattle.scram_types.specs.declared.ids.ConfId.{ConfId}
use Rattle.scram_types.specs.declared.rows.Env.{Env}
use Rattle.scram_types.specs.declared.demands.Demand.{Demand}
use Rattle.scram_types.specs.Lookups.{conf_id}
use Rattle.scram_types.specs.Searches.{first_below}
use Rattle.scram_types.specs.Specification.{Parts}
use Rattle.cube_cover.specs.Demands.{misses}
use Rattle.coverage_check.specs.declared.shown.Shown.{Shown}
use Rattle.coverage_check.specs.declared.shown.Other.TheVariants as other
use Rattle.coverage_check.specs.Search.{first_passing_env}
use Rattle.coverage_check.specs.Showing.{shown_in}

-- The first environment in scope in which the table misses a demand from configuration `c`, or `None` if there is no
-- such environment.
abbrev pub first_missed_env : Parts → Demand → ConfId → Option Env
first_missed_env spec demand c = first_passing_env spec (misses spec demand c)

-- The refusal for the first environment in scope in which the table misses demand `k` from configuration `c`, or
-- `None` if it misses the demand in no such environment. Here `demand` is demand `k`.
abbrev pub demand_refusal_of : Parts → ℕ → ℕ → Demand → Option Shown
demand_refusal_of spec c k demand = option_map (λ (v : Env). shown_in 13 c v (other.Demand k)) (first_missed_env spec demand (conf_id c))

-- The refusal for the first environment in scope in which the table misses demand `k` from configuration `c`. The
-- value is `None` if the table misses the demand in no such environment or there is no demand `k`.
abbrev pub demand_refusal_at : Parts → ℕ → ℕ → Option Shown
demand_refusal_at spec c k = option_map_or (demand_refusal_of spec c k) (slice_get spec.demands k) None

-- The refusal for the first demand that the table misses from configuration `c`, or `None` if the table misses no
-- demand from `c`.
abbrev pub demand_refusal_in : Parts → ℕ → Option Shown
demand_refusal_in spec c = first_below (demand_refusal_at spec c) (length spec.demands)

-- The refusal for demand `k` and configuration `c`, or `None` if the demand is not missed or the list `found` has no
-- entry `k`. The list contains for each demand the first environment in which the demand is missed from `c`.
abbrev pub miss_shown : List (Option Env) → ℕ → ℕ → Option Shown
miss_shown found c k =
    option_and_then (λ (least : Option Env). option_map (λ (v : Env). shown_in 13 c v (other.Demand k)) least) (slice_get found k)

-- A13: the refusal for the first configuration from which the table misses a demand, or `None` if the table misses no
-- demand.
abbrev pub demand_refusal : Parts → Option Shown
demand_refusal spec = first_below (demand_refusal_in spec) (length spec.confs)
