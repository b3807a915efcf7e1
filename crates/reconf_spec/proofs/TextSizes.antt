-- The canonical text of a specification has at most 1,048,576 bytes.
use Rattle.std.proofs.Common.{◌≡◌, ◌+◌, ◌*◌, ◌≤◌, ℕ, suc, true, List, [], ◌∷◌, length, map, arith, refl}
use Rattle.std.specs.Prelude.{Option, Some, None, codes, slice_get}
use Rattle.std.proofs.lemmas.Int.{ints}
use Rattle.serde_json.specs.Data.{string}
use Rattle.serde_json.specs.View.{items_of}
use Rattle.scram_types.specs.declared.limits.TheConstants.{MAX_SPECIFICATION_BYTES}
use Rattle.scram_types.specs.declared.ids.AppId.{AppId}
use Rattle.scram_types.specs.declared.ids.ConfId.{ConfId}
use Rattle.scram_types.specs.declared.rows.Goal.{Goal}
use Rattle.scram_types.specs.declared.specification.AppSpec.{AppSpec}
use Rattle.scram_types.specs.declared.specification.Bound.{Bound}
use Rattle.scram_types.specs.declared.specification.Choice.{Choice}
use Rattle.scram_types.specs.declared.specification.Conf.{Conf}
use Rattle.scram_types.specs.declared.demands.Demand.{Demand}
use Rattle.scram_types.specs.declared.specification.Factor.{Factor}
use Rattle.scram_types.specs.declared.specification.Invariant.{Invariant}
use Rattle.scram_types.specs.declared.specification.ModeSpec.{ModeSpec}
use Rattle.scram_types.specs.declared.specification.Place.{Place}
use Rattle.scram_types.specs.declared.specification.Policy.{Policy}
use Rattle.scram_types.specs.declared.specification.Policy.TheVariants.{Retarget, Settle}
use Rattle.scram_types.specs.declared.specification.Precondition.{Precondition}
use Rattle.scram_types.specs.declared.specification.Proc.{Proc}
use Rattle.scram_types.specs.declared.specification.Want.{Want}
use Rattle.scram_types.specs.Names.{is_name}
use Rattle.scram_types.specs.Specification.{HasNames, HasValueNames, IsAppSpec, IsChoice, IsConf, IsFactor, IsGoal, IsInterval, IsModeSpec, IsProc, IsSpec, Parts}
use Rattle.spec_reading.specs.Names.{name_of_app, name_of_conf, name_of_factor, name_of_proc}
use Rattle.spec_reading.specs.Numbering.{itself}
use Rattle.reconf_spec.specs.Texts.{app_data, assumption_data, bound_data, choice_data, conf_data, data_by, demand_data, demanding_data, factor_data, goal_data, invariant_data, mode_data, name_of_item, name_of_value, need_data, place_data, places_data, policy_name, precondition_data, proc_data, source_name, spec_data, spec_text, start_data, want_data}
use Rattle.reconf_spec.proofs.DemandSizes.{demands_exact}
use Rattle.reconf_spec.proofs.TextLengths.{items_lighter, lighter, names_short, widest, app_mode_short, count_short, integer_short, item_short, kind_short, mode_short, name_short, text_short, variable_short}
use Rattle.scram_doc.proofs.TextLengths.{exact, items_weight, list_weight, no_longer, quoted_length, weight}

proc_short : (proc : Proc) → IsProc proc → is_name proc.name ≡ true → weight widest (proc_data proc) ≤ 200
proc_short proc is named =
    let name = name_short proc.name named in
    let capacity = count_short proc.capacity is.capacity in
    omega (arith, name, capacity)

mode_spec_short : (kind : ℕ) (listed : ModeSpec) → IsModeSpec kind listed → weight widest (mode_data kind listed) ≤ 400
mode_spec_short kind listed is =
    let mode = mode_short kind listed.mode.0 in
    let load = count_short listed.load is.load in
    let halt_most = is.halt.most in
    let prepare_most = is.prepare.most in
    let init_most = is.init.most in
    let halt = count_short listed.halt (omega (arith, halt_most)) in
    let prepare = count_short listed.prepare (omega (arith, prepare_most)) in
    let init = count_short listed.init (omega (arith, init_most)) in
    omega (arith, mode, load, halt, prepare, init)

need_short : (spec : Parts) → HasNames spec → (need : AppId) → weight widest (need_data spec.apps need) ≤ 98
need_short spec names need = let name = item_short name_of_app spec.apps need.0 names.apps in omega (arith, name)

app_short : (spec : Parts) → HasNames spec → (app : AppSpec) → IsAppSpec spec.apps app → is_name app.name ≡ true → weight widest (app_data spec.apps app) ≤ 3000
app_short spec names app is named =
    let name = name_short app.name named in
    let kind = kind_short app.kind.0 in
    let modes = list_weight widest (mode_data app.kind.0) 400 app.modes (λ i x e. mode_spec_short app.kind.0 x (is.modes i x e)) in
    let needs = list_weight widest (need_data spec.apps) 98 app.needs (λ i x e. need_short spec names x) in
    let few_modes = is.count.few in
    let few_needs = is.few_needs in
    omega (arith, name, kind, modes, needs, few_modes, few_needs)

place_short : (spec : Parts) → HasNames spec → (a : ℕ) (place : Place) → weight widest (place_data spec a place) ≤ 400
place_short spec names a place =
    let app = item_short name_of_app spec.apps a names.apps in
    let mode = app_mode_short spec.apps a place.mode.0 in
    let on = item_short name_of_proc spec.procs place.proc.0 names.procs in
    omega (arith, app, mode, on)

places_short : (spec : Parts) → HasNames spec → (a : ℕ) (places : List (Option Place)) → items_weight widest (items_of (places_data spec a places)) ≤ length places * 401 + 1
places_short spec names a [] = omega arith
places_short spec names a (None ∷ places) = let rest = places_short spec names (suc a) places in omega (arith, rest)
places_short spec names a (Some place ∷ places) =
    let here = place_short spec names a place in
    let rest = places_short spec names (suc a) places in
    omega (arith, here, rest)

conf_short : (spec : Parts) → HasNames spec → (conf : Conf) → IsConf spec.procs spec.apps conf → is_name conf.name ≡ true → weight widest (conf_data spec conf) ≤ 4000
conf_short spec names conf is named =
    let name = name_short conf.name named in
    let places = places_short spec names 0 conf.places in
    let width = is.width in
    omega (arith, name, places, width)

factor_short : (factor : Factor) → IsFactor factor → is_name factor.name ≡ true → HasValueNames factor → weight widest (factor_data factor) ≤ 1000
factor_short factor is named spelled =
    let name = name_short factor.name named in
    let values = list_weight widest (λ (value : List ℕ). string value) 98 factor.values
    (λ i x e. let short = name_short x (spelled i x e) in omega (arith, short)) in
    let few = is.count.few in
    omega (arith, name, values, few)

value_short : (spec : Parts) → HasNames spec → (f value : ℕ) → length (name_of_value spec.factors f value) ≤ 16
value_short spec names f value =
    text_short (λ (factor : Factor). name_of_item itself factor.values value) (slice_get spec.factors f)
    (λ factor e. item_short itself factor.values value (names.values f factor e))

want_short : (spec : Parts) → HasNames spec → (want : Want) → weight widest (want_data spec.factors want) ≤ 300
want_short spec names want =
    let factor = item_short name_of_factor spec.factors want.factor.0 names.factors in
    let value = value_short spec names want.factor.0 want.value in
    omega (arith, factor, value)

source_short : (spec : Parts) → HasNames spec → (from : Option ConfId) → length (source_name spec.confs from) ≤ 16
source_short spec names None = omega arith
source_short spec names (Some c) = item_short name_of_conf spec.confs c.0 names.confs

choice_short : (spec : Parts) → IsSpec spec → HasNames spec → (rule : Choice) → IsChoice spec.procs spec.confs spec.factors rule → weight widest (choice_data spec rule) ≤ 4000
choice_short spec is names rule fits =
    let from = source_short spec names rule.from in
    let to = item_short name_of_conf spec.confs rule.to.0 names.confs in
    let up = names_short widest 98 name_of_proc rule.up 0 spec.procs (λ i x e. let short = name_short x.name (names.procs i x e) in omega (arith, short)) in
    let wants = list_weight widest (want_data spec.factors) 300 rule.wants (λ i x e. want_short spec names x) in
    let few_procs = is.procs_count.few in
    let few_wants = fits.few in
    omega (arith, from, to, up, wants, few_procs, few_wants)

bound_short : (spec : Parts) → HasNames spec → (bound : Bound) → bound.frames ≤ 1000 → weight widest (bound_data spec.confs bound) ≤ 400
bound_short spec names bound most =
    let from = item_short name_of_conf spec.confs bound.from.0 names.confs in
    let to = item_short name_of_conf spec.confs bound.to.0 names.confs in
    let frames = count_short bound.frames (omega (arith, most)) in
    omega (arith, from, to, frames)

invariant_short : (spec : Parts) → HasNames spec → (inv : Invariant) → IsInterval spec.apps inv.app inv.variable inv.least inv.greatest → weight widest (invariant_data spec inv) ≤ 600
invariant_short spec names inv is =
    let app = item_short name_of_app spec.apps inv.app.0 names.apps in
    let from = source_short spec names inv.from in
    let variable = variable_short spec.apps inv.app.0 inv.variable in
    let least = integer_short inv.least is.low_least is.low_most in
    let greatest = integer_short inv.greatest is.high_least is.high_most in
    omega (arith, app, from, variable, least, greatest)

precondition_short : (spec : Parts) → HasNames spec → (pre : Precondition) → IsInterval spec.apps pre.app pre.variable pre.least pre.greatest → weight widest (precondition_data spec pre) ≤ 600
precondition_short spec names pre is =
    let app = item_short name_of_app spec.apps pre.app.0 names.apps in
    let conf = item_short name_of_conf spec.confs pre.conf.0 names.confs in
    let variable = variable_short spec.apps pre.app.0 pre.variable in
    let least = integer_short pre.least is.low_least is.low_most in
    let greatest = integer_short pre.greatest is.high_least is.high_most in
    omega (arith, app, conf, variable, least, greatest)

goal_short : (goal : Goal) → IsGoal goal → weight widest (goal_data goal) ≤ 200
goal_short goal is =
    let lowest = is.lowest in
    let highest = is.highest in
    let first = is.first in
    let last = is.last in
    let altitude = integer_short goal.altitude (omega (arith, ints, lowest)) (omega (arith, ints, highest)) in
    let heading = integer_short goal.heading (omega (arith, ints, first)) (omega (arith, ints, last)) in
    omega (arith, altitude, heading)

assumption_short : (spec : Parts) → IsSpec spec → weight widest (assumption_data spec) ≤ 200
assumption_short spec is =
    let few_halts = is.halts in
    let few_changes = is.changes in
    let most = is.window_most in
    let halts = count_short spec.halts (omega (arith, few_halts)) in
    let changes = count_short spec.changes (omega (arith, few_changes)) in
    let window = count_short spec.window (omega (arith, most)) in
    omega (arith, halts, changes, window)

-- The weight of each list of the specification's canonical value is at most the bound for this list.
record HasShortLists (spec : Parts) : Type 0 where
  procs : items_weight widest (items_of (map proc_data spec.procs)) ≤ 2000
  apps : items_weight widest (items_of (map (app_data spec.apps) spec.apps)) ≤ 25000
  confs : items_weight widest (items_of (map (conf_data spec) spec.confs)) ≤ 50000
  factors : items_weight widest (items_of (map factor_data spec.factors)) ≤ 7000
  rules : items_weight widest (items_of (map (choice_data spec) spec.rules)) ≤ 260000
  bounds : items_weight widest (items_of (map (bound_data spec.confs) spec.bounds)) ≤ 60000
  invariants : items_weight widest (items_of (map (invariant_data spec) spec.invariants)) ≤ 40000
  preconditions : items_weight widest (items_of (map (precondition_data spec) spec.preconditions)) ≤ 40000

lists_short : (spec : Parts) → IsSpec spec → HasNames spec → HasShortLists spec
lists_short spec is names =
    let few_procs = is.procs_count.few in
    let few_apps = is.apps_count.few in
    let few_confs = is.confs_count.few in
    let few_factors = is.factors_count in
    let few_rules = is.rules_count in
    let few_bounds = is.bounds_count in
    let few_invariants = is.invariants_count in
    let few_preconditions = is.preconditions_count in
    let procs = list_weight widest proc_data 200 spec.procs (λ i x e. proc_short x (is.procs i x e) (names.procs i x e)) in
    let apps = list_weight widest (app_data spec.apps) 3000 spec.apps (λ i x e. app_short spec names x (is.apps i x e) (names.apps i x e)) in
    let confs = list_weight widest (conf_data spec) 4000 spec.confs (λ i x e. conf_short spec names x (is.confs i x e) (names.confs i x e)) in
    let factors = list_weight widest factor_data 1000 spec.factors (λ i x e. factor_short x (is.factors i x e) (names.factors i x e) (names.values i x e)) in
    let rules = list_weight widest (choice_data spec) 4000 spec.rules (λ i x e. choice_short spec is names x (is.rules i x e)) in
    let bounds = list_weight widest (bound_data spec.confs) 400 spec.bounds (λ i x e. bound_short spec names x (is.bounds i x e).most) in
    let invariants = list_weight widest (invariant_data spec) 600 spec.invariants (λ i x e. invariant_short spec names x (is.invariants i x e).interval) in
    let preconditions = list_weight widest (precondition_data spec) 600 spec.preconditions (λ i x e. precondition_short spec names x (is.preconditions i x e).interval) in
    record {
      procs = omega (arith, few_procs, procs);
      apps = omega (arith, few_apps, apps);
      confs = omega (arith, few_confs, confs);
      factors = omega (arith, few_factors, factors);
      rules = omega (arith, few_rules, rules);
      bounds = omega (arith, few_bounds, bounds);
      invariants = omega (arith, few_invariants, invariants);
      preconditions = omega (arith, few_preconditions, preconditions);
    }

-- The weights of the goal, the failure assumption and the start are at most 200 each.
record HasShortRest (spec : Parts) : Type 0 where
  goal : weight widest (goal_data spec.goal) ≤ 200
  assumption : weight widest (assumption_data spec) ≤ 200
  start : weight widest (start_data spec) ≤ 200

light : (policy : Policy) (spec : Parts) → HasShortLists spec → HasShortRest spec → weight exact (data_by [] policy spec) ≤ 1000000
light Retarget spec lists rest =
    let version = count_short 1 (omega arith) in
    let weighed : weight widest (data_by [] Retarget spec) ≤ 1000000 =
    omega (arith, lists.procs, lists.apps, lists.confs, lists.factors, lists.rules, lists.bounds, lists.invariants, lists.preconditions, rest.goal, rest.assumption, rest.start, version) in
    let exactly = lighter (data_by [] Retarget spec) in
    omega (arith, weighed, exactly)
light Settle spec lists rest =
    let version = count_short 2 (omega arith) in
    let weighed : weight widest (data_by [] Settle spec) ≤ 1000000 =
    omega (arith, lists.procs, lists.apps, lists.confs, lists.factors, lists.rules, lists.bounds, lists.invariants, lists.preconditions, rest.goal, rest.assumption, rest.start, version) in
    let exactly = lighter (data_by [] Settle spec) in
    omega (arith, weighed, exactly)

policy_exact : (policy : Policy) → exact (policy_name policy) ≤ 10
policy_exact Retarget = let written = quoted_length (codes "retarget") refl in omega (arith, written)
policy_exact Settle = let written = quoted_length (codes "settle") refl in omega (arith, written)

light_demanding : (policy : Policy) (demands : List Demand) (spec : Parts) → HasShortLists spec → HasShortRest spec → items_weight exact (items_of (map (demand_data spec) demands)) ≤ 300000
    → weight exact (demanding_data policy demands spec) ≤ 1000000
light_demanding policy demands spec lists rest few =
    let version = count_short 3 (omega arith) in
    let named = policy_exact policy in
    let procs = items_lighter (items_of (map proc_data spec.procs)) in
    let apps = items_lighter (items_of (map (app_data spec.apps) spec.apps)) in
    let confs = items_lighter (items_of (map (conf_data spec) spec.confs)) in
    let factors = items_lighter (items_of (map factor_data spec.factors)) in
    let rules = items_lighter (items_of (map (choice_data spec) spec.rules)) in
    let bounds = items_lighter (items_of (map (bound_data spec.confs) spec.bounds)) in
    let invariants = items_lighter (items_of (map (invariant_data spec) spec.invariants)) in
    let preconditions = items_lighter (items_of (map (precondition_data spec) spec.preconditions)) in
    let goal = lighter (goal_data spec.goal) in
    let assumption = lighter (assumption_data spec) in
    let start = lighter (start_data spec) in
    omega (
      arith,
      few,
      named,
      version,
      procs,
      apps,
      confs,
      factors,
      rules,
      bounds,
      invariants,
      preconditions,
      goal,
      assumption,
      start,
      lists.procs,
      lists.apps,
      lists.confs,
      lists.factors,
      lists.rules,
      lists.bounds,
      lists.invariants,
      lists.preconditions,
      rest.goal,
      rest.assumption,
      rest.start,
      quoted_length (codes "apps") refl,
      quoted_length (codes "assumption") refl,
      quoted_length (codes "bounds") refl,
      quoted_length (codes "configurations") refl,
      quoted_length (codes "demands") refl,
      quoted_length (codes "factors") refl,
      quoted_length (codes "goal") refl,
      quoted_length (codes "invariants") refl,
      quoted_length (codes "policy") refl,
      quoted_length (codes "preconditions") refl,
      quoted_length (codes "processors") refl,
      quoted_length (codes "rules") refl,
      quoted_length (codes "scram") refl,
      quoted_length (codes "start") refl,
    )

light_by : (demands : List Demand) (policy : Policy) (spec : Parts) → HasShortLists spec → HasShortRest spec → items_weight exact (items_of (map (demand_data spec) demands)) ≤ 300000
    → weight exact (data_by demands policy spec) ≤ 1000000
light_by [] policy spec lists rest few = light policy spec lists rest
light_by (demand ∷ demands) policy spec lists rest few = light_demanding policy (demand ∷ demands) spec lists rest few

pub spec_text_short : (spec : Parts) → IsSpec spec → length (spec_text spec) ≤ MAX_SPECIFICATION_BYTES
spec_text_short spec is =
    let start = item_short name_of_conf spec.confs spec.start.0 is.names.confs in
    let rest : HasShortRest spec = record { goal = goal_short spec.goal is.goal; assumption = assumption_short spec is; start = omega (arith, start) } in
    let weighed = light_by spec.demands spec.policy spec (lists_short spec is is.names) rest (demands_exact spec is) in
    let written = no_longer exact (λ text. omega arith) (spec_data spec) in
    omega (arith, weighed, written)
