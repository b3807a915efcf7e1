-- The lines of the places at which acceptance fails.
use Rattle.std.specs.Prelude.{ℕ, ◌+◌, Bool, not, ◌&&◌, ◌==◌, List, [], ◌++◌, length, slice_get, Option, Some, None, codes, decimal, if◌then◌else◌}
use Rattle.std.specs.Option.{option_map_or}
use Rattle.scram_types.specs.declared.limits.TheConstants.{MAX_ENVIRONMENTS}
use Rattle.scram_types.specs.declared.rows.Env.{Env}
use Rattle.scram_types.specs.declared.ids.AppId.{AppId}
use Rattle.scram_types.specs.declared.ids.ConfId.{ConfId}
use Rattle.scram_types.specs.declared.ids.ProcId.{ProcId}
use Rattle.scram_types.specs.declared.specification.Choice.{Choice}
use Rattle.scram_types.specs.declared.demands.Demand.{Demand}
use Rattle.scram_types.specs.declared.specification.Invariant.{Invariant}
use Rattle.scram_types.specs.declared.specification.Place.{Place}
use Rattle.scram_types.specs.declared.specification.Precondition.{Precondition}
use Rattle.scram_types.specs.Bits.{has_bit}
use Rattle.scram_types.specs.Lookups.{app_name, conf_name, is_on, kind_of_app, opening_env, place_of, proc_name}
use Rattle.scram_types.specs.Searches.{any_below, least_from}
use Rattle.scram_types.specs.Specification.{Parts, modes_on}
use Rattle.kind_table.specs.Names.{mode_text, name_in, variable_names}
use Rattle.choice_table.specs.Choices.{choose}
use Rattle.choice_table.specs.Demands.{is_empty_or_holds, is_placed}
use Rattle.choice_table.specs.Numbering.{states}
use Rattle.cube_cover.specs.Shares.{first_rule}
use Rattle.coverage_check.specs.Form.{capacity_of, load_below}
use Rattle.coverage_check.specs.Timing.{greatest_bound}
use Rattle.coverage_check.specs.declared.choosing.Requirement.{Requirement}
use Rattle.coverage_check.specs.declared.choosing.Requirement.TheVariants as requirement
use Rattle.flight_facts.specs.Extremes.{extremes_text}
use Rattle.form_base.specs.Lines.{demand_name, env_text}
use Rattle.form_base.specs.Texts.{texts_below}
use Rattle.spec_forms.specs.choice_forms.Choosing.{needs_piece}
use Rattle.spec_forms.specs.Lines.{bound_line}
use Rattle.condition_breaks.specs.declared.breaks.Break.{Break}
use Rattle.condition_breaks.specs.declared.breaks.Break.TheVariants as broken
use Rattle.acceptance_breaks.specs.declared.limits.Limits.{Limits}
use Rattle.condition_breaks.specs.declared.breaks.Unheld.{Unheld}
use Rattle.condition_breaks.specs.declared.breaks.Way.{Way}
use Rattle.condition_breaks.specs.Ranges.{interval, range_on}
use Rattle.acceptance_breaks.specs.Limits.{invariant_limits, precondition_limits}

-- The line for application `a`, which is on in configuration `c` while application `b`, which `a` needs, is off.
abbrev pub need_line : Parts → ConfId → AppId → AppId → List ℕ
need_line spec c a b =
    codes "  in " ++ conf_name spec c.0 ++ codes " " ++ app_name spec a.0 ++ codes " is on and " ++ app_name spec b.0 ++ codes " is off\n"

-- The line with the number of environments in scope and the maximum number that may be in scope.
abbrev pub states_line : Parts → List ℕ
states_line spec = codes "  states " ++ decimal (states spec) ++ codes ", at most " ++ decimal MAX_ENVIRONMENTS ++ codes "\n"

-- The line for configuration `c`, in which no application is on.
abbrev pub empty_line : Parts → ConfId → List ℕ
empty_line spec c = codes "  " ++ conf_name spec c.0 ++ codes " has nothing on\n"

-- The line for configuration `c`, which equals the earlier configuration `d`.
abbrev pub twin_line : Parts → ConfId → ConfId → List ℕ
twin_line spec c d = codes "  " ++ conf_name spec c.0 ++ codes " equals " ++ conf_name spec d.0 ++ codes "\n"

-- The line with the load that configuration `c` puts on processor `p`, and the processor's capacity.
abbrev pub load_line : Parts → ConfId → ProcId → List ℕ
load_line spec c p =
    codes "  in " ++ conf_name spec c.0 ++ codes " " ++ proc_name spec p.0 ++ codes " carries " ++ decimal (load_below spec c p.0 (length spec.apps))
    ++ codes " of " ++ decimal (capacity_of spec p.0) ++ codes "\n"

-- The text that rule `k` chooses the target `to`.
abbrev pub chooses_text : Parts → ℕ → ConfId → List ℕ
chooses_text spec k to = codes " rule " ++ decimal k ++ codes " chooses " ++ conf_name spec to.0

-- The text of rule `k` and its target, or the text that no rule fits if there is no rule `k`.
abbrev pub fitting_text : Parts → ℕ → List ℕ
fitting_text spec k =
    option_map_or (λ (rule : Choice). chooses_text spec k rule.to) (slice_get spec.rules k) (codes " no rule fits")

-- The text of the first rule that fits configuration `c` in environment `v`, and of the rule's target, or the text
-- that no rule fits.
abbrev pub chosen_text : Parts → ConfId → Env → List ℕ
chosen_text spec c v = fitting_text spec (first_rule spec.rules c v)

-- The text of configuration `c`, environment `v` and the choice from `c` in `v`.
abbrev pub situation_text : Parts → ConfId → Env → List ℕ
situation_text spec c v = codes "from " ++ conf_name spec c.0 ++ codes " in " ++ env_text spec v ++ chosen_text spec c v

-- The start of a line, with configuration `c`, environment `v` and the choice from `c` in `v`.
abbrev pub situation_piece : Parts → ConfId → Env → List ℕ
situation_piece spec c v = codes "  " ++ situation_text spec c v

-- The end of a line, with the further choice from the target that is chosen from `c` in `v`.
abbrev pub unsettled_piece : Parts → ConfId → Env → List ℕ
unsettled_piece spec c v = codes ", from which" ++ chosen_text spec (choose spec c v) v ++ codes "\n"

-- The end of a line, which shows how the choice from `c` in `v` fails a requirement. For the requirement `HasRule`
-- the end is a line feed alone.
abbrev pub unmet_piece : Parts → Requirement → ConfId → Env → List ℕ
unmet_piece spec requirement.HasRule c v = codes "\n"
unmet_piece spec requirement.CanRun c v = needs_piece spec v (first_rule spec.rules c v)
unmet_piece spec requirement.Stays c v = unsettled_piece spec c v

-- The line for the choice from `c` in `v`, which fails the requirement `asked`.
abbrev pub unmet_line : Parts → Requirement → ConfId → Env → List ℕ
unmet_line spec asked c v = situation_piece spec c v ++ unmet_piece spec asked c v

-- The line for a start configuration from which another configuration is chosen in the opening environment.
abbrev pub start_line : Parts → List ℕ
start_line spec = situation_piece spec spec.start (opening_env spec) ++ codes "\n"

-- The two spaces at the start of a line.
abbrev pub indent : List ℕ
indent = codes "  "

-- The line for a missing or insufficient bound, with the minimum bound that suffices and the bound that is given.
abbrev pub lacking_line : Parts → ConfId → ConfId → List ℕ
lacking_line spec from to = indent ++ bound_line spec from to

-- The line with the window and the minimum window that suffices.
abbrev pub window_line : Parts → List ℕ
window_line spec = codes "  window " ++ decimal spec.window ++ codes ", at least " ++ decimal (greatest_bound spec.bounds + 1) ++ codes "\n"

-- The name of variable `i` of an application, or the empty text if the application's kind does not use the variable.
abbrev pub variable_text : Parts → AppId → ℕ → List ℕ
variable_text spec a i = option_map_or (λ (name : List ℕ). name) (name_in (variable_names (kind_of_app spec a.0)) i) []

-- The name of the application's mode at a place, or `off` if there is no place.
abbrev pub place_mode_text : Parts → AppId → Option Place → List ℕ
place_mode_text spec a None = codes "off"
place_mode_text spec a (Some place) = mode_text (kind_of_app spec a.0) place.mode.0

-- The text of the number, the application and the variable of an invariant or a precondition.
abbrev pub subject_text : Parts → Limits → List ℕ
subject_text spec limits =
    codes " " ++ decimal limits.item ++ codes " " ++ app_name spec limits.app.0 ++ codes " " ++ variable_text spec limits.app limits.variable

-- The text of the interval that is given and the interval that is needed.
abbrev pub intervals_text : Limits → List ℕ
intervals_text limits = codes " " ++ extremes_text limits.given ++ codes " needs " ++ extremes_text limits.needed ++ codes ": "

-- The text of the number, the application, the variable and the intervals of an invariant or a precondition.
abbrev pub limits_text : Parts → Limits → List ℕ
limits_text spec limits = subject_text spec limits ++ intervals_text limits

-- The text of a way from a configuration to one of its possible targets, or to itself: the name of the source, and
-- the name of the target if the target is another configuration.
abbrev pub way_text : Parts → Way → List ℕ
way_text spec taken = conf_name spec taken.from.0 ++ (if taken.from.0 == taken.to.0 then [] else codes " > " ++ conf_name spec taken.to.0)

-- The line for invariant `inv`, whose number is in `found`. The line has the interval that the invariant specifies,
-- the interval that it needs, and the first way whose range the specified interval does not contain.
abbrev pub unheld_line_of : Parts → Unheld → Invariant → List ℕ
unheld_line_of spec found inv =
    codes "  invariant" ++ limits_text spec (invariant_limits found inv) ++ way_text spec found.way ++ codes " "
    ++ place_mode_text spec inv.app (place_of spec found.way.to inv.app.0) ++ codes " " ++ extremes_text (interval (range_on spec inv found.way)) ++ codes "\n"

-- The line for the invariant whose number is in `found`, or the empty text if there is no such invariant.
abbrev pub unheld_line : Parts → Unheld → List ℕ
unheld_line spec found = option_map_or (unheld_line_of spec found) (slice_get spec.invariants found.invariant) []

-- The line of precondition `k`, with the interval that the precondition specifies, the interval that it needs, and
-- its configuration. Here `pre` is precondition `k`.
abbrev pub missed_line_of : Parts → ℕ → Precondition → List ℕ
missed_line_of spec k pre =
    codes "  precondition" ++ limits_text spec (precondition_limits spec k pre) ++ conf_name spec pre.conf.0 ++ codes " "
    ++ place_mode_text spec pre.app (place_of spec pre.conf pre.app.0) ++ codes "\n"

-- The line of precondition `k`, or the empty text if there is no such precondition.
abbrev pub missed_line : Parts → ℕ → List ℕ
missed_line spec k = option_map_or (missed_line_of spec k) (slice_get spec.preconditions k) []

-- The start of a line, with demand `k`, configuration `c`, environment `v` and the choice from `c` in `v`.
abbrev pub demand_piece : Parts → ConfId → ℕ → Env → List ℕ
demand_piece spec c k v = codes "  demand " ++ demand_name spec k ++ codes " " ++ situation_text spec c v

-- The name of configuration `c`, preceded by a comma and a space unless `c` is the first of the set. The text is
-- empty if `c` is not in the set.
abbrev pub conf_in_text : Parts → ℕ → ℕ → List ℕ
conf_in_text spec set c = if has_bit set c then (if any_below (has_bit set) c then codes ", " else []) ++ conf_name spec c else []

-- The names of the configurations of a set, separated by a comma and a space.
abbrev pub members_text : Parts → ℕ → List ℕ
members_text spec set = texts_below (conf_in_text spec set) (length spec.confs)

-- Whether the demand requires application `a` to be on, but `a` is off in configuration `c` or in a mode that the
-- demand does not allow.
abbrev pub is_on_missed : Parts → Demand → ConfId → ℕ → Bool
is_on_missed spec demand c a = not (is_placed (modes_on demand a) (place_of spec c a))

-- Whether the demand requires application `a` to be off, but `a` is on in configuration `c`.
abbrev pub is_off_missed : Parts → Demand → ConfId → ℕ → Bool
is_off_missed spec demand c a = has_bit demand.off a && is_on spec c a

-- The first application that the demand requires to be on, but that is off in configuration `c` or in a mode that the
-- demand does not allow. The value is `None` if there is none.
abbrev pub first_on_missed : Parts → Demand → ConfId → Option ℕ
first_on_missed spec demand c = least_from (is_on_missed spec demand c) 0 (length spec.apps)

-- The first application that the demand requires to be off, but that is on in configuration `c`, or `None` if there
-- is none.
abbrev pub first_off_missed : Parts → Demand → ConfId → Option ℕ
first_off_missed spec demand c = least_from (is_off_missed spec demand c) 0 (length spec.apps)

-- The name of application `a`, followed by the mode of its place, or by the text that it is off if it has no place.
abbrev pub whereabouts_text : Parts → ℕ → Option Place → List ℕ
whereabouts_text spec a None = app_name spec a ++ codes " is off"
whereabouts_text spec a (Some place) = app_name spec a ++ codes " is in " ++ mode_text (kind_of_app spec a) place.mode.0

-- The text for an application that must be off but is on, or the empty text if there is none.
abbrev pub off_missed_text : Parts → Option ℕ → List ℕ
off_missed_text spec None = []
off_missed_text spec (Some a) = codes ", in which " ++ app_name spec a ++ codes " is on"

-- The text for an application that must be on but is off or in a mode that the demand does not allow. If there is no
-- such application, the text is that for the first application that must be off but is on.
abbrev pub app_missed_text : Parts → Demand → ConfId → Option ℕ → List ℕ
app_missed_text spec demand c None = off_missed_text spec (first_off_missed spec demand c)
app_missed_text spec demand c (Some a) = codes ", in which " ++ whereabouts_text spec a (place_of spec c a)

-- The text that the chosen configuration is none of the demand's configurations, with the names of the demand's
-- configurations.
abbrev pub none_of_text : Parts → Demand → List ℕ
none_of_text spec demand = codes ", which is none of " ++ members_text spec demand.to

-- The text that shows how configuration `c` fails a demand.
abbrev pub missed_text : Parts → Demand → ConfId → List ℕ
missed_text spec demand c =
    if is_empty_or_holds demand.to c then app_missed_text spec demand c (first_on_missed spec demand c) else none_of_text spec demand

-- The end of a line, which shows how the configuration chosen from `c` in `v` fails demand `k`.
abbrev pub missed_piece : Parts → ConfId → ℕ → Env → List ℕ
missed_piece spec c k v = option_map_or (λ (demand : Demand). missed_text spec demand (choose spec c v)) (slice_get spec.demands k) [] ++ codes "\n"

-- The line for the choice from configuration `c` in environment `v`, which fails demand `k`.
abbrev pub demand_line : Parts → ConfId → ℕ → Env → List ℕ
demand_line spec c k v = demand_piece spec c k v ++ missed_piece spec c k v

-- The line for a place at which a condition does not hold.
abbrev pub break_line : Parts → Break → List ℕ
break_line spec (broken.NeedOff c a b) = need_line spec c a b
break_line spec broken.ManyStates = states_line spec
break_line spec (broken.NothingOn c) = empty_line spec c
break_line spec (broken.SameAgain c d) = twin_line spec c d
break_line spec (broken.Overloaded c p) = load_line spec c p
break_line spec (broken.Unmet asked c v) = unmet_line spec asked c v
break_line spec broken.StartLeft = start_line spec
break_line spec (broken.BoundLacking i j) = lacking_line spec i j
break_line spec broken.WindowShort = window_line spec
break_line spec (broken.Unheld found) = unheld_line spec found
break_line spec (broken.PreconditionMissed k) = missed_line spec k
break_line spec (broken.DemandMissed c k v) = demand_line spec c k v
