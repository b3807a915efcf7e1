-- The places at which each condition of acceptance does not hold, as ordered lists.
use Rattle.std.specs.Prelude.{ℕ, ◌==◌, List, [], ◌∷◌, length, slice_get, Option, None, option_and_then, option_map, if◌then◌else◌}
use Rattle.std.specs.Option.{option_map_or, option_to_list}
use Rattle.scram_types.specs.Lookups.{app_id, conf_id, proc_id}
use Rattle.scram_types.specs.Specification.{Parts}
use Rattle.scram_types.specs.declared.rows.Env.{Env}
use Rattle.scram_types.specs.declared.ids.ConfId.{ConfId}
use Rattle.scram_types.specs.declared.demands.Demand.{Demand}
use Rattle.scram_types.specs.declared.specification.Invariant.{Invariant}
use Rattle.scram_types.specs.declared.specification.Precondition.{Precondition}
use Rattle.coverage_check.specs.Choosing.{first_unmet_env, leaves_start}
use Rattle.coverage_check.specs.Demands.{first_missed_env}
use Rattle.coverage_check.specs.Form.{has_too_many_states, is_empty, is_overloaded}
use Rattle.coverage_check.specs.Holding.{breaks_entering}
use Rattle.coverage_check.specs.Search.{shown_if}
use Rattle.coverage_check.specs.Timing.{has_short_window, lacks_bound}
use Rattle.coverage_check.specs.declared.choosing.Requirement.{Requirement}
use Rattle.coverage_check.specs.declared.choosing.Requirement.TheVariants as requirement
use Rattle.condition_breaks.specs.declared.breaks.Break.{Break}
use Rattle.condition_breaks.specs.declared.breaks.Break.TheVariants as broken
use Rattle.condition_breaks.specs.declared.breaks.Way.{Way}
use Rattle.condition_breaks.specs.Form.{first_twin, is_need_off}
use Rattle.condition_breaks.specs.Lists.{gathered_below, one_if}
use Rattle.condition_breaks.specs.Ranges.{all_ways, first_unheld, hull_of, interval, range_on}

-- The place of A1 if application `a` is on in configuration `c`, `a` needs application `b`, and `b` is off in `c`.
-- Otherwise the list is empty.
abbrev pub need_break : Parts → ℕ → ℕ → ℕ → List Break
need_break spec c a b = one_if (is_need_off spec (conf_id c) a b) (broken.NeedOff (conf_id c) (app_id a) (app_id b))

-- The places of A1 for configuration `c` and application `a`, by needed application.
abbrev pub need_breaks_of : Parts → ℕ → ℕ → List Break
need_breaks_of spec c a = gathered_below (need_break spec c a) (length spec.apps)

-- The places of A1 for configuration `c`, by application.
abbrev pub need_breaks_in : Parts → ℕ → List Break
need_breaks_in spec c = gathered_below (need_breaks_of spec c) (length spec.apps)

-- The places of A1, by configuration.
abbrev pub need_breaks : Parts → List Break
need_breaks spec = gathered_below (need_breaks_in spec) (length spec.confs)

-- The place of A2 if more than `MAX_ENVIRONMENTS` environments are in scope, or the empty list.
abbrev pub state_breaks : Parts → List Break
state_breaks spec = one_if (has_too_many_states spec) broken.ManyStates

-- The place of A3 for configuration `c` if no application is on in `c` or an earlier configuration is the same.
-- Otherwise the list is empty. If an application is on in `c`, the place contains the first earlier configuration
-- that is the same.
abbrev pub shape_break : Parts → ℕ → List Break
shape_break spec c =
    if is_empty spec (conf_id c) then broken.NothingOn (conf_id c) ∷ []
    else option_to_list (option_map (λ (d : ConfId). broken.SameAgain (conf_id c) d) (first_twin spec c))

-- The places of A3, by configuration.
abbrev pub shape_breaks : Parts → List Break
shape_breaks spec = gathered_below (shape_break spec) (length spec.confs)

-- The place of A4 if configuration `c` loads processor `p` beyond its capacity, or the empty list.
abbrev pub load_break : Parts → ℕ → ℕ → List Break
load_break spec c p = one_if (is_overloaded spec (conf_id c) p) (broken.Overloaded (conf_id c) (proc_id p))

-- The places of A4 for configuration `c`, by processor.
abbrev pub load_breaks_in : Parts → ℕ → List Break
load_breaks_in spec c = gathered_below (load_break spec c) (length spec.procs)

-- The places of A4, by configuration.
abbrev pub load_breaks : Parts → List Break
load_breaks spec = gathered_below (load_breaks_in spec) (length spec.confs)

-- The place of A5, A6 or A7 for configuration `c`, with the first environment in scope in which `c` does not meet the
-- requirement. The list is empty if `c` meets the requirement in each environment in scope.
abbrev pub unmet_break : Parts → Requirement → ℕ → List Break
unmet_break spec asked c = option_to_list (option_map (λ (v : Env). broken.Unmet asked (conf_id c) v) (first_unmet_env spec asked (conf_id c)))

-- The places of A5, A6 or A7, at which the requirement `asked` is not met, by configuration.
abbrev pub unmet_breaks : Parts → Requirement → List Break
unmet_breaks spec asked = gathered_below (unmet_break spec asked) (length spec.confs)

-- The place of A8 if the table leaves the start configuration in the opening environment, or the empty list.
abbrev pub start_breaks : Parts → List Break
start_breaks spec = one_if (leaves_start spec) broken.StartLeft

-- The place of A9 for a bound from configuration `i` to configuration `j` if a bound is required and no sufficient
-- bound is given, or the empty list.
abbrev pub bound_break : Parts → ℕ → ℕ → List Break
bound_break spec i j = one_if (lacks_bound spec (conf_id i) j) (broken.BoundLacking (conf_id i) (conf_id j))

-- The places of A9 for bounds from configuration `i`, by target.
abbrev pub bound_breaks_from : Parts → ℕ → List Break
bound_breaks_from spec i = gathered_below (bound_break spec i) (length spec.confs)

-- The places of A9, by source.
abbrev pub bound_breaks : Parts → List Break
bound_breaks spec = gathered_below (bound_breaks_from spec) (length spec.confs)

-- The place of A10 if the window is not longer than the greatest bound, or the empty list.
abbrev pub window_breaks : Parts → List Break
window_breaks spec = one_if (has_short_window spec) broken.WindowShort

-- The place of A11 for invariant `k` and the way `taken`. The place contains the smallest interval that contains the
-- range on this way and all ranges that the invariant has to contain. Here `inv` is invariant `k`.
abbrev pub unheld : Parts → ℕ → Invariant → Way → Break
unheld spec k inv taken =
    broken.Unheld (record { invariant = k; way = taken; needed = hull_of spec inv (interval (range_on spec inv taken)) (all_ways spec) })

-- The place of A11 for invariant `k`, with the first way whose range the invariant has to contain but does not
-- contain. The value is `None` if there is no such way. Here `inv` is invariant `k`.
abbrev pub unheld_of : Parts → ℕ → Invariant → Option Break
unheld_of spec k inv = option_map (unheld spec k inv) (first_unheld spec inv (all_ways spec))

-- The place of A11 for invariant `k`, or `None` if there is no invariant `k` or the invariant contains all ranges
-- that it has to contain.
abbrev pub unheld_at : Parts → ℕ → Option Break
unheld_at spec k = option_map_or (unheld_of spec k) (slice_get spec.invariants k) None

-- The place of A11 for invariant `k` if the invariant does not contain some range that it has to contain, or the
-- empty list.
abbrev pub invariant_break : Parts → ℕ → List Break
invariant_break spec k = option_to_list (unheld_at spec k)

-- The places of A11, by invariant.
abbrev pub invariant_breaks : Parts → List Break
invariant_breaks spec = gathered_below (invariant_break spec) (length spec.invariants)

-- The place of A12 for precondition `k`, or `None` if the precondition cannot fail when its configuration is entered.
-- Here `pre` is precondition `k`.
abbrev pub unentered_of : Parts → ℕ → Precondition → Option Break
unentered_of spec k pre = shown_if (breaks_entering spec pre) (broken.PreconditionMissed k)

-- The place of A12 for precondition `k`, or `None` if there is no precondition `k` or the precondition cannot fail.
abbrev pub unentered_at : Parts → ℕ → Option Break
unentered_at spec k = option_map_or (unentered_of spec k) (slice_get spec.preconditions k) None

-- The place of A12 for precondition `k` if the precondition can fail when its configuration is entered, or the empty
-- list.
abbrev pub precondition_break : Parts → ℕ → List Break
precondition_break spec k = option_to_list (unentered_at spec k)

-- The places of A12, by precondition.
abbrev pub precondition_breaks : Parts → List Break
precondition_breaks spec = gathered_below (precondition_break spec) (length spec.preconditions)

-- The place of A13 for configuration `c` and demand `k`, with the first environment in scope in which the table
-- misses the demand from `c`. The list is empty if there is no such environment. Here `demand` is demand `k`.
abbrev pub demand_break_of : Parts → ℕ → ℕ → Demand → List Break
demand_break_of spec c k demand =
    option_to_list (option_map (λ (v : Env). broken.DemandMissed (conf_id c) k v) (first_missed_env spec demand (conf_id c)))

-- The place of A13 for configuration `c` and demand `k`, or the empty list if there is no demand `k` or the table
-- does not miss the demand from `c`.
abbrev pub demand_break : Parts → ℕ → ℕ → List Break
demand_break spec c k = option_map_or (demand_break_of spec c k) (slice_get spec.demands k) []

-- The places of A13 for configuration `c`, by demand.
abbrev pub demand_breaks_in : Parts → ℕ → List Break
demand_breaks_in spec c = gathered_below (demand_break spec c) (length spec.demands)

-- The places of A13, by configuration.
abbrev pub demand_breaks : Parts → List Break
demand_breaks spec = gathered_below (demand_breaks_in spec) (length spec.confs)

-- The place of A13 for configuration `c` and demand `k`, or `None` if the demand is not missed or does not exist.
-- `found` contains for each demand the first environment in which the demand is missed, or `None` if the demand is
-- not missed.
abbrev pub missed_at : List (Option Env) → ℕ → ℕ → Option Break
missed_at found c k =
    option_and_then (λ (first : Option Env). option_map (λ (v : Env). broken.DemandMissed (conf_id c) k v) first) (slice_get found k)

-- The places at which the condition of this number does not hold if the number is 9 to 13, or the empty list.
abbrev pub later_breaks : Parts → ℕ → List Break
later_breaks spec condition =
    if condition == 9 then bound_breaks spec else
    if condition == 10 then window_breaks spec else
    if condition == 11 then invariant_breaks spec else
    if condition == 12 then precondition_breaks spec else
    if condition == 13 then demand_breaks spec else []

-- The places at which the condition of this number does not hold if the number is 5 to 13, or the empty list.
abbrev pub choice_breaks : Parts → ℕ → List Break
choice_breaks spec condition =
    if condition == 5 then unmet_breaks spec requirement.HasRule else
    if condition == 6 then unmet_breaks spec requirement.CanRun else
    if condition == 7 then unmet_breaks spec requirement.Stays else
    if condition == 8 then start_breaks spec else later_breaks spec condition

-- The places at which the condition of this number does not hold, or the empty list if the number is not 1 to 13.
abbrev pub breaks : Parts → ℕ → List Break
breaks spec condition =
    if condition == 1 then need_breaks spec else
    if condition == 2 then state_breaks spec else
    if condition == 3 then shape_breaks spec else
    if condition == 4 then load_breaks spec else choice_breaks spec condition
