-- Lemmas that the canonical value of a specification has no float and is not nested deeply.
use Rattle.std.proofs.Common.{◌≡◌, ◌≤◌, ℕ, suc, Bool, true, false, cond, List, [], ◌∷◌, map, arith, refl}
use Rattle.std.specs.Prelude.{Option, Some, None}
use Rattle.serde_json.specs.Data.{Data, Members, depth, items_depth, member, members_depth, no_members, object, string}
use Rattle.serde_json.specs.Read.{max_depth}
use Rattle.serde_json.specs.View.{items_of}
use Rattle.serde_json.specs.Written.{has_float, items_have_float}
use Rattle.scram_doc.proofs.Plain.{integer_no_float, low, no_float}
use Rattle.scram_types.specs.declared.rows.Goal.{Goal}
use Rattle.scram_types.specs.declared.ids.Mode.{Mode}
use Rattle.scram_types.specs.declared.specification.AppSpec.{AppSpec}
use Rattle.scram_types.specs.declared.specification.Choice.{Choice}
use Rattle.scram_types.specs.declared.specification.Conf.{Conf}
use Rattle.scram_types.specs.declared.demands.Demand.{Demand}
use Rattle.scram_types.specs.declared.specification.Factor.{Factor}
use Rattle.scram_types.specs.declared.specification.Invariant.{Invariant}
use Rattle.scram_types.specs.declared.specification.Place.{Place}
use Rattle.scram_types.specs.declared.specification.Policy.{Policy}
use Rattle.scram_types.specs.declared.specification.Policy.TheVariants.{Retarget, Settle}
use Rattle.scram_types.specs.declared.specification.Precondition.{Precondition}
use Rattle.scram_types.specs.Specification.{Parts}
use Rattle.scram_types.specs.Bits.{has_bit}
use Rattle.spec_reading.specs.Names.{name_of_app, name_of_conf, name_of_proc}
use Rattle.reconf_spec.specs.Texts.{app_data, bound_data, choice_data, conf_data, data_by, demand_data, demanding_members, factor_data, goal_data, invariant_data, mode_data, name_of_app_mode, names_data, need_data, on_app_data, on_data, places_data, precondition_data, proc_data, spec_data, want_data}

places_no_float : (spec : Parts) (a : ℕ) (places : List (Option Place)) → items_have_float (items_of (places_data spec a places)) ≡ false
places_no_float spec a [] = refl
places_no_float spec a (None ∷ places) = places_no_float spec (suc a) places
places_no_float spec a (Some place ∷ places) = places_no_float spec (suc a) places

places_low : (spec : Parts) (a : ℕ) (places : List (Option Place)) → items_depth (items_of (places_data spec a places)) ≤ 1
places_low spec a [] = omega arith
places_low spec a (None ∷ places) = places_low spec (suc a) places
places_low spec a (Some place ∷ places) = let rest = places_low spec (suc a) places in omega (arith, rest)

names_no_float_by : (b : Bool) (name : List ℕ) (rest : List Data) → items_have_float (items_of rest) ≡ false → items_have_float (items_of (cond b (string name ∷ rest) rest)) ≡ false
names_no_float_by true name rest h = h
names_no_float_by false name rest h = h

names_no_float : {A : Type 0} (name : A → List ℕ) (set n : ℕ) (xs : List A) → items_have_float (items_of (names_data name set n xs)) ≡ false
names_no_float name set n [] = refl
names_no_float name set n (x ∷ xs) = names_no_float_by (has_bit set n) (name x) (names_data name set (suc n) xs) (names_no_float name set (suc n) xs)

names_low_by : (b : Bool) (name : List ℕ) (rest : List Data) → items_depth (items_of rest) ≤ 0 → items_depth (items_of (cond b (string name ∷ rest) rest)) ≤ 0
names_low_by true name rest h = omega (arith, h)
names_low_by false name rest h = h

names_low : {A : Type 0} (name : A → List ℕ) (set n : ℕ) (xs : List A) → items_depth (items_of (names_data name set n xs)) ≤ 0
names_low name set n [] = omega arith
names_low name set n (x ∷ xs) = names_low_by (has_bit set n) (name x) (names_data name set (suc n) xs) (names_low name set (suc n) xs)

on_app_no_float : (spec : Parts) (a : ℕ) (modes : List Mode) → has_float (on_app_data spec a modes) ≡ false
on_app_no_float spec a modes = rw (no_float (λ (mode : Mode). string (name_of_app_mode spec.apps a mode.0)) (λ x. refl) modes) refl

on_no_float : (spec : Parts) (a : ℕ) (on : List (Option (List Mode))) → items_have_float (items_of (on_data spec a on)) ≡ false
on_no_float spec a [] = refl
on_no_float spec a (None ∷ on) = on_no_float spec (suc a) on
on_no_float spec a (Some modes ∷ on) = rw (on_app_no_float spec a modes) (on_no_float spec (suc a) on)

on_app_low : (spec : Parts) (a : ℕ) (modes : List Mode) → depth (on_app_data spec a modes) ≤ 2
on_app_low spec a modes = let names = low (λ (mode : Mode). string (name_of_app_mode spec.apps a mode.0)) 0 (λ x. omega arith) modes in omega (arith, names)

on_low : (spec : Parts) (a : ℕ) (on : List (Option (List Mode))) → items_depth (items_of (on_data spec a on)) ≤ 2
on_low spec a [] = omega arith
on_low spec a (None ∷ on) = on_low spec (suc a) on
on_low spec a (Some modes ∷ on) =
    let here = on_app_low spec a modes in
    let rest = on_low spec (suc a) on in
    omega (arith, here, rest)

app_no_float : (apps : List AppSpec) (app : AppSpec) → has_float (app_data apps app) ≡ false
app_no_float apps app = rw (no_float (mode_data app.kind.0) (λ x. refl) app.modes, no_float (need_data apps) (λ x. refl) app.needs) refl

conf_no_float : (spec : Parts) (conf : Conf) → has_float (conf_data spec conf) ≡ false
conf_no_float spec conf = rw (places_no_float spec 0 conf.places) refl

factor_no_float : (factor : Factor) → has_float (factor_data factor) ≡ false
factor_no_float factor = rw (no_float (λ (name : List ℕ). string name) (λ x. refl) factor.values) refl

choice_no_float : (spec : Parts) (rule : Choice) → has_float (choice_data spec rule) ≡ false
choice_no_float spec rule = rw (names_no_float name_of_proc rule.up 0 spec.procs, no_float (want_data spec.factors) (λ x. refl) rule.wants) refl

invariant_no_float : (spec : Parts) (inv : Invariant) → has_float (invariant_data spec inv) ≡ false
invariant_no_float spec inv = rw (integer_no_float inv.greatest, integer_no_float inv.least) refl

precondition_no_float : (spec : Parts) (pre : Precondition) → has_float (precondition_data spec pre) ≡ false
precondition_no_float spec pre = rw (integer_no_float pre.greatest, integer_no_float pre.least) refl

demand_no_float : (spec : Parts) (demand : Demand) → has_float (demand_data spec demand) ≡ false
demand_no_float spec demand = rw (
  names_no_float name_of_proc demand.down 0 spec.procs,
  names_no_float name_of_conf demand.from 0 spec.confs,
  names_no_float name_of_app demand.off 0 spec.apps,
  on_no_float spec 0 demand.on,
  names_no_float name_of_conf demand.to 0 spec.confs,
  names_no_float name_of_proc demand.up 0 spec.procs,
  no_float (want_data spec.factors) (λ x. refl) demand.wants,
) refl

goal_no_float : (goal : Goal) → has_float (goal_data goal) ≡ false
goal_no_float goal = rw (integer_no_float goal.altitude, integer_no_float goal.heading) refl

-- No list of the specification's canonical value has a float.
record ListsNoFloat (spec : Parts) : Type 0 where
  apps : items_have_float (items_of (map (app_data spec.apps) spec.apps)) ≡ false
  bounds : items_have_float (items_of (map (bound_data spec.confs) spec.bounds)) ≡ false
  confs : items_have_float (items_of (map (conf_data spec) spec.confs)) ≡ false
  factors : items_have_float (items_of (map factor_data spec.factors)) ≡ false
  invariants : items_have_float (items_of (map (invariant_data spec) spec.invariants)) ≡ false
  preconditions : items_have_float (items_of (map (precondition_data spec) spec.preconditions)) ≡ false
  procs : items_have_float (items_of (map proc_data spec.procs)) ≡ false
  rules : items_have_float (items_of (map (choice_data spec) spec.rules)) ≡ false

lists_no_float : (spec : Parts) → ListsNoFloat spec
lists_no_float spec = record {
  apps = no_float (app_data spec.apps) (app_no_float spec.apps) spec.apps;
  bounds = no_float (bound_data spec.confs) (λ x. refl) spec.bounds;
  confs = no_float (conf_data spec) (conf_no_float spec) spec.confs;
  factors = no_float factor_data factor_no_float spec.factors;
  invariants = no_float (invariant_data spec) (invariant_no_float spec) spec.invariants;
  preconditions = no_float (precondition_data spec) (precondition_no_float spec) spec.preconditions;
  procs = no_float proc_data (λ x. refl) spec.procs;
  rules = no_float (choice_data spec) (choice_no_float spec) spec.rules;
}

no_float_by : (demands : List Demand) (policy : Policy) (spec : Parts) → ListsNoFloat spec → has_float (data_by demands policy spec) ≡ false
no_float_by [] Retarget spec lists =
    rw (lists.apps, lists.bounds, lists.confs, lists.factors, goal_no_float spec.goal, lists.invariants, lists.preconditions, lists.procs, lists.rules) refl
no_float_by [] Settle spec lists =
    rw (lists.apps, lists.bounds, lists.confs, lists.factors, goal_no_float spec.goal, lists.invariants, lists.preconditions, lists.procs, lists.rules) refl
no_float_by (demand ∷ demands) policy spec lists =
    let written = no_float (demand_data spec) (demand_no_float spec) (demand ∷ demands) in
    rw (lists.apps, lists.bounds, lists.confs, written, lists.factors, goal_no_float spec.goal, lists.invariants, lists.preconditions, lists.procs, lists.rules) refl

pub spec_no_float : (spec : Parts) → has_float (spec_data spec) ≡ false
spec_no_float spec = no_float_by spec.demands spec.policy spec (lists_no_float spec)

app_low : (apps : List AppSpec) (app : AppSpec) → depth (app_data apps app) ≤ 3
app_low apps app =
    let modes = low (mode_data app.kind.0) 1 (λ x. omega arith) app.modes in
    let needs = low (need_data apps) 0 (λ x. omega arith) app.needs in
    omega (arith, modes, needs)

conf_low : (spec : Parts) (conf : Conf) → depth (conf_data spec conf) ≤ 3
conf_low spec conf = let places = places_low spec 0 conf.places in omega (arith, places)

factor_low : (factor : Factor) → depth (factor_data factor) ≤ 2
factor_low factor = let values = low (λ (name : List ℕ). string name) 0 (λ x. omega arith) factor.values in omega (arith, values)

choice_low : (spec : Parts) (rule : Choice) → depth (choice_data spec rule) ≤ 3
choice_low spec rule =
    let up = names_low name_of_proc rule.up 0 spec.procs in
    let wants = low (want_data spec.factors) 1 (λ x. omega arith) rule.wants in
    omega (arith, up, wants)

demand_low : (spec : Parts) (demand : Demand) → depth (demand_data spec demand) ≤ 4
demand_low spec demand =
    let down = names_low name_of_proc demand.down 0 spec.procs in
    let from = names_low name_of_conf demand.from 0 spec.confs in
    let off = names_low name_of_app demand.off 0 spec.apps in
    let on = on_low spec 0 demand.on in
    let to = names_low name_of_conf demand.to 0 spec.confs in
    let up = names_low name_of_proc demand.up 0 spec.procs in
    let wants = low (want_data spec.factors) 1 (λ x. omega arith) demand.wants in
    omega (arith, down, from, off, on, to, up, wants)

-- The depth of each list of the specification's canonical value is at most the bound for this list.
record AreLow (spec : Parts) : Type 0 where
  apps : items_depth (items_of (map (app_data spec.apps) spec.apps)) ≤ 3
  bounds : items_depth (items_of (map (bound_data spec.confs) spec.bounds)) ≤ 1
  confs : items_depth (items_of (map (conf_data spec) spec.confs)) ≤ 3
  factors : items_depth (items_of (map factor_data spec.factors)) ≤ 2
  invariants : items_depth (items_of (map (invariant_data spec) spec.invariants)) ≤ 1
  preconditions : items_depth (items_of (map (precondition_data spec) spec.preconditions)) ≤ 1
  procs : items_depth (items_of (map proc_data spec.procs)) ≤ 1
  rules : items_depth (items_of (map (choice_data spec) spec.rules)) ≤ 3

are_low : (spec : Parts) → AreLow spec
are_low spec = record {
  apps = low (app_data spec.apps) 3 (app_low spec.apps) spec.apps;
  bounds = low (bound_data spec.confs) 1 (λ x. omega arith) spec.bounds;
  confs = low (conf_data spec) 3 (conf_low spec) spec.confs;
  factors = low factor_data 2 factor_low spec.factors;
  invariants = low (invariant_data spec) 1 (λ x. omega arith) spec.invariants;
  preconditions = low (precondition_data spec) 1 (λ x. omega arith) spec.preconditions;
  procs = low proc_data 1 (λ x. omega arith) spec.procs;
  rules = low (choice_data spec) 3 (choice_low spec) spec.rules;
}

-- The value of each member has a depth of at most `n`.
record AreLowMembers (n : ℕ) (ms : Members) : Type 0 where
  low : members_depth ms ≤ n

none_low : (n : ℕ) → AreLowMembers n no_members
none_low n = record { low = omega arith }

one_more_low : (n : ℕ) (k : List ℕ) (d : Data) (ms : Members) → depth d ≤ n → AreLowMembers n ms → AreLowMembers n (member k d ms)
one_more_low n k d ms here rest = let few = rest.low in record { low = omega (arith, here, few) }

object_low : (n : ℕ) (ms : Members) → AreLowMembers n ms → depth (object ms) ≤ suc n
object_low n ms all = let few = all.low in omega (arith, few)

depth_by : (demands : List Demand) (policy : Policy) (spec : Parts) → AreLow spec → depth (data_by demands policy spec) ≤ max_depth
depth_by [] Retarget spec lists = omega (arith, lists.apps, lists.bounds, lists.confs, lists.factors, lists.invariants, lists.preconditions, lists.procs, lists.rules)
depth_by [] Settle spec lists = omega (arith, lists.apps, lists.bounds, lists.confs, lists.factors, lists.invariants, lists.preconditions, lists.procs, lists.rules)
depth_by (demand ∷ demands) policy spec lists =
    let written = low (demand_data spec) 4 (demand_low spec) (demand ∷ demands) in
    object_low 126 (demanding_members policy (demand ∷ demands) spec) (
    one_more_low 126 _ _ _ (omega (arith, lists.apps)) (
    one_more_low 126 _ _ _ (omega arith) (
    one_more_low 126 _ _ _ (omega (arith, lists.bounds)) (
    one_more_low 126 _ _ _ (omega (arith, lists.confs)) (
    one_more_low 126 _ _ _ (omega (arith, written)) (
    one_more_low 126 _ _ _ (omega (arith, lists.factors)) (
    one_more_low 126 _ _ _ (omega arith) (
    one_more_low 126 _ _ _ (omega (arith, lists.invariants)) (
    one_more_low 126 _ _ _ (omega arith) (
    one_more_low 126 _ _ _ (omega (arith, lists.preconditions)) (
    one_more_low 126 _ _ _ (omega (arith, lists.procs)) (
    one_more_low 126 _ _ _ (omega (arith, lists.rules)) (
    one_more_low 126 _ _ _ (omega arith) (
    one_more_low 126 _ _ _ (omega arith) (none_low 126)))))))))))))))

pub spec_depth : (spec : Parts) → depth (spec_data spec) ≤ max_depth
spec_depth spec = depth_by spec.demands spec.policy spec (are_low spec)
