-- The canonical value of a specification. The canonical text is the compact JSON text of this value, in which the
-- members of an object are sorted by their bytes.
use Rattle.std.specs.Prelude.{ℕ, suc, List, [], ◌∷◌, codes, Option, Some, None, slice_get, if◌then◌else◌}
use Rattle.std.specs.Option.{option_map_or}
use Rattle.serde_json.specs.Data.{Data, put, string, array, object, Members, no_members, member}
use Rattle.serde_json.specs.View.{items_of}
use Rattle.serde_json.specs.Written.{compact_text}
use Rattle.scram_types.specs.declared.ids.AppId.{AppId}
use Rattle.scram_types.specs.declared.ids.ConfId.{ConfId}
use Rattle.scram_types.specs.declared.rows.Goal.{Goal}
use Rattle.scram_types.specs.declared.specification.Proc.{Proc}
use Rattle.scram_types.specs.declared.specification.ModeSpec.{ModeSpec}
use Rattle.scram_types.specs.declared.specification.AppSpec.{AppSpec}
use Rattle.scram_types.specs.declared.specification.Place.{Place}
use Rattle.scram_types.specs.declared.specification.Conf.{Conf}
use Rattle.scram_types.specs.declared.specification.Factor.{Factor}
use Rattle.scram_types.specs.declared.specification.Want.{Want}
use Rattle.scram_types.specs.declared.specification.Choice.{Choice}
use Rattle.scram_types.specs.declared.specification.Bound.{Bound}
use Rattle.scram_types.specs.declared.specification.Invariant.{Invariant}
use Rattle.scram_types.specs.declared.specification.Precondition.{Precondition}
use Rattle.scram_types.specs.declared.demands.Demand.{Demand}
use Rattle.scram_types.specs.declared.ids.Mode.{Mode}
use Rattle.scram_types.specs.declared.specification.Policy.{Policy}
use Rattle.scram_types.specs.declared.specification.Policy.TheVariants.{Retarget, Settle}
use Rattle.scram_types.specs.Specification.{Parts}
use Rattle.kind_table.specs.Names.{kind_names, mode_names, variable_names, name_in}
use Rattle.scram_doc.specs.Canonical.{count_data, integer_data, list_data}
use Rattle.spec_reading.specs.Names.{name_of_proc, name_of_app, name_of_conf, name_of_factor}
use Rattle.spec_reading.specs.Numbering.{itself}
use Rattle.scram_types.specs.Bits.{has_bit}

-- The name of item number `n`, or the empty name if there is no such item.
abbrev pub name_of_item : {A : Type 0} → (A → List ℕ) → List A → ℕ → List ℕ
name_of_item name xs n = option_map_or name (slice_get xs n) []

-- The name, or the empty name if there is none.
abbrev pub name_or_nothing : Option (List ℕ) → List ℕ
name_or_nothing name = option_map_or itself name []

-- The name of a kind, or the empty name if there is no such kind.
abbrev pub name_of_kind : ℕ → List ℕ
name_of_kind kind = name_or_nothing (name_in kind_names kind)

-- The name of a mode of a kind, or the empty name if there is no such mode.
abbrev pub name_of_mode : ℕ → ℕ → List ℕ
name_of_mode kind mode = name_or_nothing (name_in (mode_names kind) mode)

-- The name of a variable of a kind, or the empty name if there is no such variable.
abbrev pub name_of_kind_variable : ℕ → ℕ → List ℕ
name_of_kind_variable kind variable = name_or_nothing (name_in (variable_names kind) variable)

-- The name of a mode of application `a`, by the table of its kind. It is empty if there is no such application or
-- mode.
abbrev pub name_of_app_mode : List AppSpec → ℕ → ℕ → List ℕ
name_of_app_mode apps a mode = option_map_or (λ (app : AppSpec). name_of_mode app.kind.0 mode) (slice_get apps a) []

-- The name of a variable of application `a`, by the table of its kind. It is empty if there is no such application or
-- variable.
abbrev pub name_of_variable : List AppSpec → ℕ → ℕ → List ℕ
name_of_variable apps a variable = option_map_or (λ (app : AppSpec). name_of_kind_variable app.kind.0 variable) (slice_get apps a) []

-- The canonical value of a processor.
abbrev pub proc_data : Proc → Data
proc_data proc = object (member (codes "capacity") (count_data proc.capacity) (member (codes "name") (string proc.name) no_members))

-- The canonical value of a mode that an application of this kind lists.
abbrev pub mode_data : ℕ → ModeSpec → Data
mode_data kind listed = object (
    member (codes "halt") (count_data listed.halt) (
    member (codes "init") (count_data listed.init) (
    member (codes "load") (count_data listed.load) (
    member (codes "mode") (string (name_of_mode kind listed.mode.0)) (
    member (codes "prepare") (count_data listed.prepare) no_members)))))

-- The canonical value of a needed application, which is its name.
abbrev pub need_data : List AppSpec → AppId → Data
need_data apps need = string (name_of_item name_of_app apps need.0)

-- The canonical value of application `app`. The list `apps` has the applications that `app` needs.
abbrev pub app_data : List AppSpec → AppSpec → Data
app_data apps app = object (
    member (codes "kind") (string (name_of_kind app.kind.0)) (
    member (codes "modes") (list_data (mode_data app.kind.0) app.modes) (
    member (codes "name") (string app.name) (
    member (codes "needs") (list_data (need_data apps) app.needs) no_members))))

-- The canonical value of the place of application `a`.
abbrev pub place_data : Parts → ℕ → Place → Data
place_data spec a place = object (
    member (codes "app") (string (name_of_item name_of_app spec.apps a)) (
    member (codes "mode") (string (name_of_app_mode spec.apps a place.mode.0)) (
    member (codes "on") (string (name_of_item name_of_proc spec.procs place.proc.0)) no_members)))

-- The canonical values of the places that are given, in the order of applications. The first entry of the list
-- belongs to application `a`.
abbrev pub places_data : Parts → ℕ → List (Option Place) → List Data
places_data spec a [] = []
places_data spec a (None ∷ places) = places_data spec (suc a) places
places_data spec a (Some place ∷ places) = place_data spec a place ∷ places_data spec (suc a) places

-- The canonical value of a configuration.
abbrev pub conf_data : Parts → Conf → Data
conf_data spec conf = object (
    member (codes "apps") (array (items_of (places_data spec 0 conf.places))) (
    member (codes "name") (string conf.name) no_members))

-- The canonical value of an environment factor.
abbrev pub factor_data : Factor → Data
factor_data factor = object (
    member (codes "name") (string factor.name) (
    member (codes "values") (list_data (λ (name : List ℕ). string name) factor.values) no_members))

-- The name of a source configuration, or `*` if the source is any configuration.
abbrev pub source_name : List Conf → Option ConfId → List ℕ
source_name confs None = codes "*"
source_name confs (Some c) = name_of_item name_of_conf confs c.0

-- The name of a value of factor `f`, or the empty name if there is no such factor or value.
abbrev pub name_of_value : List Factor → ℕ → ℕ → List ℕ
name_of_value factors f value = option_map_or (λ (factor : Factor). name_of_item itself factor.values value) (slice_get factors f) []

-- The canonical value of a rule's requirement that a factor has a certain value.
abbrev pub want_data : List Factor → Want → Data
want_data factors want = object (
    member (codes "factor") (string (name_of_item name_of_factor factors want.factor.0)) (
    member (codes "value") (string (name_of_value factors want.factor.0 want.value)) no_members))

-- The names of the items whose numbers are in a set, in order. The first item of the list has number `n`.
abbrev pub names_data : {A : Type 0} → (A → List ℕ) → ℕ → ℕ → List A → List Data
names_data name set n [] = []
names_data name set n (x ∷ xs) = if has_bit set n then string (name x) ∷ names_data name set (suc n) xs else names_data name set (suc n) xs

-- The canonical value of a set of items, which is the list of their names in order.
abbrev pub set_data : {A : Type 0} → (A → List ℕ) → List A → ℕ → Data
set_data name xs set = array (items_of (names_data name set 0 xs))

-- The canonical value of a rule of the choice table.
abbrev pub choice_data : Parts → Choice → Data
choice_data spec rule = object (
    member (codes "from") (string (source_name spec.confs rule.from)) (
    member (codes "to") (string (name_of_item name_of_conf spec.confs rule.to.0)) (
    member (codes "up") (set_data name_of_proc spec.procs rule.up) (
    member (codes "when") (list_data (want_data spec.factors) rule.wants) no_members))))

-- The canonical value of a bound on a reconfiguration.
abbrev pub bound_data : List Conf → Bound → Data
bound_data confs bound = object (
    member (codes "frames") (count_data bound.frames) (
    member (codes "from") (string (name_of_item name_of_conf confs bound.from.0)) (
    member (codes "to") (string (name_of_item name_of_conf confs bound.to.0)) no_members)))

-- The canonical value of the goal.
abbrev pub goal_data : Goal → Data
goal_data goal = object (member (codes "altitude") (integer_data goal.altitude) (member (codes "heading") (integer_data goal.heading) no_members))

-- The canonical value of an invariant.
abbrev pub invariant_data : Parts → Invariant → Data
invariant_data spec inv = object (
    member (codes "app") (string (name_of_item name_of_app spec.apps inv.app.0)) (
    member (codes "from") (string (source_name spec.confs inv.from)) (
    member (codes "greatest") (integer_data inv.greatest) (
    member (codes "least") (integer_data inv.least) (
    member (codes "variable") (string (name_of_variable spec.apps inv.app.0 inv.variable)) no_members)))))

-- The canonical value of a precondition.
abbrev pub precondition_data : Parts → Precondition → Data
precondition_data spec pre = object (
    member (codes "app") (string (name_of_item name_of_app spec.apps pre.app.0)) (
    member (codes "configuration") (string (name_of_item name_of_conf spec.confs pre.conf.0)) (
    member (codes "greatest") (integer_data pre.greatest) (
    member (codes "least") (integer_data pre.least) (
    member (codes "variable") (string (name_of_variable spec.apps pre.app.0 pre.variable)) no_members)))))

-- The canonical value of an application that must be on, with the modes that it may be in.
abbrev pub on_app_data : Parts → ℕ → List Mode → Data
on_app_data spec a modes = object (
    member (codes "app") (string (name_of_item name_of_app spec.apps a)) (
    member (codes "modes") (list_data (λ (mode : Mode). string (name_of_app_mode spec.apps a mode.0)) modes) no_members))

-- The canonical values of the applications that must be on, in order. The first entry of the list belongs to
-- application `a`.
abbrev pub on_data : Parts → ℕ → List (Option (List Mode)) → List Data
on_data spec a [] = []
on_data spec a (None ∷ on) = on_data spec (suc a) on
on_data spec a (Some modes ∷ on) = on_app_data spec a modes ∷ on_data spec (suc a) on

-- The canonical value of a demand.
abbrev pub demand_data : Parts → Demand → Data
demand_data spec demand = object (
    member (codes "down") (set_data name_of_proc spec.procs demand.down) (
    member (codes "from") (set_data name_of_conf spec.confs demand.from) (
    member (codes "name") (string demand.name) (
    member (codes "off") (set_data name_of_app spec.apps demand.off) (
    member (codes "on") (array (items_of (on_data spec 0 demand.on))) (
    member (codes "to") (set_data name_of_conf spec.confs demand.to) (
    member (codes "up") (set_data name_of_proc spec.procs demand.up) (
    member (codes "when") (list_data (want_data spec.factors) demand.wants) no_members))))))))

-- The name of a policy.
abbrev pub policy_name : Policy → List ℕ
policy_name Retarget = codes "retarget"
policy_name Settle = codes "settle"

-- The canonical value of the failure assumption, which is the member `assumption`.
abbrev pub assumption_data : Parts → Data
assumption_data spec = object (
    member (codes "changes") (count_data spec.changes) (
    member (codes "halts") (count_data spec.halts) (
    member (codes "window") (count_data spec.window) no_members)))

-- The canonical value of the start, which is the name of the starting configuration.
abbrev pub start_data : Parts → Data
start_data spec = string (name_of_item name_of_conf spec.confs spec.start.0)

-- The canonical value, in version 1, of a specification whose policy is to retarget.
abbrev pub retarget_data : Parts → Data
retarget_data spec = object (
    member (codes "apps") (list_data (app_data spec.apps) spec.apps) (
    member (codes "assumption") (assumption_data spec) (
    member (codes "bounds") (list_data (bound_data spec.confs) spec.bounds) (
    member (codes "configurations") (list_data (conf_data spec) spec.confs) (
    member (codes "factors") (list_data factor_data spec.factors) (
    member (codes "goal") (goal_data spec.goal) (
    member (codes "invariants") (list_data (invariant_data spec) spec.invariants) (
    member (codes "preconditions") (list_data (precondition_data spec) spec.preconditions) (
    member (codes "processors") (list_data proc_data spec.procs) (
    member (codes "rules") (list_data (choice_data spec) spec.rules) (
    member (codes "scram") (count_data 1) (
    member (codes "start") (start_data spec) no_members))))))))))))

-- The canonical value, in version 2, of a specification whose policy is to settle.
abbrev pub settle_data : Parts → Data
settle_data spec = object (
    member (codes "apps") (list_data (app_data spec.apps) spec.apps) (
    member (codes "assumption") (assumption_data spec) (
    member (codes "bounds") (list_data (bound_data spec.confs) spec.bounds) (
    member (codes "configurations") (list_data (conf_data spec) spec.confs) (
    member (codes "factors") (list_data factor_data spec.factors) (
    member (codes "goal") (goal_data spec.goal) (
    member (codes "invariants") (list_data (invariant_data spec) spec.invariants) (
    member (codes "policy") (string (codes "settle")) (
    member (codes "preconditions") (list_data (precondition_data spec) spec.preconditions) (
    member (codes "processors") (list_data proc_data spec.procs) (
    member (codes "rules") (list_data (choice_data spec) spec.rules) (
    member (codes "scram") (count_data 2) (
    member (codes "start") (start_data spec) no_members)))))))))))))

-- The members of a specification in version 3 with this policy and these demands.
abbrev pub demanding_members : Policy → List Demand → Parts → Members
demanding_members policy demands spec =
    member (codes "apps") (list_data (app_data spec.apps) spec.apps) (
    member (codes "assumption") (assumption_data spec) (
    member (codes "bounds") (list_data (bound_data spec.confs) spec.bounds) (
    member (codes "configurations") (list_data (conf_data spec) spec.confs) (
    member (codes "demands") (list_data (demand_data spec) demands) (
    member (codes "factors") (list_data factor_data spec.factors) (
    member (codes "goal") (goal_data spec.goal) (
    member (codes "invariants") (list_data (invariant_data spec) spec.invariants) (
    member (codes "policy") (string (policy_name policy)) (
    member (codes "preconditions") (list_data (precondition_data spec) spec.preconditions) (
    member (codes "processors") (list_data proc_data spec.procs) (
    member (codes "rules") (list_data (choice_data spec) spec.rules) (
    member (codes "scram") (count_data 3) (
    member (codes "start") (start_data spec) no_members)))))))))))))

-- The canonical value of a specification in version 3 with this policy and these demands.
abbrev pub demanding_data : Policy → List Demand → Parts → Data
demanding_data policy demands spec = object (demanding_members policy demands spec)

-- The canonical value of a specification: in version 3 if there are demands, else in version 1 if the policy is to
-- retarget, and in version 2 if it is to settle.
abbrev pub data_by : List Demand → Policy → Parts → Data
data_by [] Retarget spec = retarget_data spec
data_by [] Settle spec = settle_data spec
data_by (demand ∷ demands) policy spec = demanding_data policy (demand ∷ demands) spec

-- The canonical value of a specification.
abbrev pub spec_data : Parts → Data
spec_data spec = data_by spec.demands spec.policy spec

-- The canonical text of a specification.
abbrev pub spec_text : Parts → List ℕ
spec_text spec = compact_text (spec_data spec)

-- The members `ms` with the members `processors`, `apps`, `configurations` and `factors`, each put at its place in
-- byte order.
abbrev pub with_named : Parts → Members → Members
with_named spec ms =
    put (codes "factors") (list_data factor_data spec.factors) (
    put (codes "configurations") (list_data (conf_data spec) spec.confs) (
    put (codes "apps") (list_data (app_data spec.apps) spec.apps) (
    put (codes "processors") (list_data proc_data spec.procs) ms)))

-- The members `ms` with the members `rules`, `bounds`, `start` and `goal`.
abbrev pub with_table : Parts → Members → Members
with_table spec ms =
    put (codes "goal") (goal_data spec.goal) (
    put (codes "start") (start_data spec) (
    put (codes "bounds") (list_data (bound_data spec.confs) spec.bounds) (
    put (codes "rules") (list_data (choice_data spec) spec.rules) ms)))

-- The members `ms` with the members `invariants`, `preconditions` and `assumption`.
abbrev pub with_limits : Parts → Members → Members
with_limits spec ms =
    put (codes "assumption") (assumption_data spec) (
    put (codes "preconditions") (list_data (precondition_data spec) spec.preconditions) (
    put (codes "invariants") (list_data (invariant_data spec) spec.invariants) ms))

-- The members `ms` with the members `demands`, `policy` and `scram` of a specification in version 3.
abbrev pub with_demands : List Demand → Policy → Parts → Members → Members
with_demands demands policy spec ms =
    put (codes "scram") (count_data 3) (
    put (codes "policy") (string (policy_name policy)) (
    put (codes "demands") (list_data (demand_data spec) demands) ms))

-- The members `ms` with the member `scram`, which contains the version, and the members `policy` and `demands` if the
-- version has them.
abbrev pub with_version : List Demand → Policy → Parts → Members → Members
with_version [] Retarget spec ms = put (codes "scram") (count_data 1) ms
with_version [] Settle spec ms = put (codes "scram") (count_data 2) (put (codes "policy") (string (codes "settle")) ms)
with_version (demand ∷ demands) policy spec ms = with_demands (demand ∷ demands) policy spec ms

-- The members `ms` with the members of a demand that contain the environments and configurations to which the demand
-- applies.
abbrev pub with_condition : Parts → Demand → Members → Members
with_condition spec demand ms =
    put (codes "down") (set_data name_of_proc spec.procs demand.down) (
    put (codes "up") (set_data name_of_proc spec.procs demand.up) (
    put (codes "when") (list_data (want_data spec.factors) demand.wants) (
    put (codes "from") (set_data name_of_conf spec.confs demand.from) ms)))

-- The members `ms` with the members of a demand that contain its requirements on the chosen configuration.
abbrev pub with_asked : Parts → Demand → Members → Members
with_asked spec demand ms =
    put (codes "off") (set_data name_of_app spec.apps demand.off) (
    put (codes "on") (array (items_of (on_data spec 0 demand.on))) (
    put (codes "to") (set_data name_of_conf spec.confs demand.to) ms))
