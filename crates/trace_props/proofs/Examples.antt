-- Worked examples: a specification with two configurations, and traces that keep or break each property.
use Rattle.std.proofs.Common.{◌≡◌, ◌+◌, refl, ℕ, List, [], ◌∷◌, pos}
use Rattle.std.specs.Prelude.{Option, Some, None, replicate}
use Rattle.scram_types.specs.declared.ids.ConfId.{ConfId}
use Rattle.scram_types.specs.declared.rows.Env.{Env}
use Rattle.scram_types.specs.declared.rows.Report.{Report}
use Rattle.scram_types.specs.declared.rows.Row.{Row}
use Rattle.scram_types.specs.declared.orders.Act.{Act}
use Rattle.scram_types.specs.declared.orders.Act.TheVariants as act
use Rattle.scram_types.specs.declared.orders.KMode.TheVariants as kmode
use Rattle.scram_types.specs.declared.specification.AppSpec.{AppSpec}
use Rattle.scram_types.specs.declared.specification.Bound.{Bound}
use Rattle.scram_types.specs.declared.specification.Conf.{Conf}
use Rattle.scram_types.specs.declared.demands.Demand.{Demand}
use Rattle.scram_types.specs.declared.specification.Invariant.{Invariant}
use Rattle.scram_types.specs.declared.specification.ModeSpec.{ModeSpec}
use Rattle.scram_types.specs.declared.specification.Policy.{Policy}
use Rattle.scram_types.specs.declared.specification.Policy.TheVariants.{Retarget, Settle}
use Rattle.scram_types.specs.declared.specification.Precondition.{Precondition}
use Rattle.scram_types.specs.Numbers.{word}
use Rattle.scram_types.specs.Specification.{Parts}
use Rattle.scram_types.specs.Lookups.{conf_id}
use Rattle.coverage_check.proofs.Examples.{bound, first_rule, other_rule}
use Rattle.trace_props.specs.declared.breaks.Broken.{Broken}
use Rattle.trace_props.specs.declared.breaks.Property.{Property}
use Rattle.trace_props.specs.declared.breaks.Property.TheVariants.{Sp1, Sp2, Sp3, Sp4, Sp5, Sp6}
use Rattle.trace_props.specs.Judging.{first_break}

abbrev pub mode : ℕ → ModeSpec
mode m = record { mode = record { 0 = m }; load = 20; halt = 1; prepare = 1; init = 1 }

-- A power monitor with two modes, and a configuration for each.
abbrev pub monitor : AppSpec
monitor = record { name = 109 ∷ []; kind = record { 0 = 2 }; needs = []; modes = mode 1 ∷ mode 2 ∷ []; rank = 0 }

abbrev pub placed : ℕ → Conf
placed m = record { name = (96 + m) ∷ []; places = Some (record { mode = record { 0 = m }; proc = record { 0 = 0 } }) ∷ replicate 7 None }

abbrev spec_with_demands : List Bound → Policy → List Invariant → List Precondition → List Demand → Parts
spec_with_demands bounds policy invariants preconditions demands = record {
  procs = record { name = 112 ∷ []; capacity = 100 } ∷ [];
  apps = monitor ∷ [];
  confs = placed 1 ∷ placed 2 ∷ [];
  factors = record { name = 120 ∷ []; values = (97 ∷ []) ∷ (98 ∷ []) ∷ [] } ∷ [];
  rules = first_rule ∷ other_rule ∷ [];
  bounds = bounds;
  start = conf_id 0;
  goal = record { altitude = pos 0; heading = pos 0 };
  invariants = invariants;
  preconditions = preconditions;
  policy = policy;
  demands = demands;
  halts = 0;
  changes = 1;
  window = 40;
}

abbrev spec_of : List Bound → Policy → List Invariant → List Precondition → Parts
spec_of bounds policy invariants preconditions = spec_with_demands bounds policy invariants preconditions []

abbrev pub spec : Parts
spec = spec_of (bound 0 0 8 ∷ bound 0 1 8 ∷ bound 1 0 8 ∷ bound 1 1 8 ∷ []) Retarget [] []

-- Rows in the order of their frames, with the environment, the monitor's act, and the first two words of its area.
abbrev env : ℕ → ℕ → Env
env up value = record { up = up; factors = value ∷ replicate 5 0 }

abbrev row : Env → Act → ℕ → ℕ → Row
row v done status charge = record {
  frame = 0;
  env = v;
  mode = kmode.Stable (conf_id 0);
  acts = done ∷ replicate 7 act.Off;
  areas = (pos status ∷ pos charge ∷ replicate 6 (pos 0)) ∷ replicate 7 (replicate 8 (pos 0));
  world = record { alt = pos 0; climb = pos 0; heading = pos 0; bank = pos 0 };
}

abbrev ran : ℕ → Act
ran m = act.Ran (record { 0 = m }) (record { 0 = 0 })

abbrev before : Env
before = env 1 0

abbrev after : Env
after = env 1 1

-- An environment with another set of processors that are up. The table does not depend on this set. Therefore a
-- change of the set does not change the choice.
abbrev other : Env
other = env 0 0

abbrev pub moved : ℕ → ℕ → ℕ → Report
moved to begin end = record { from = conf_id 0; to = Some (conf_id to); begin = begin; end = end }

abbrev cut_off : ℕ → ℕ → Report
cut_off begin end = record { from = conf_id 0; to = None; begin = begin; end = end }

abbrev broken : Property → ℕ → Option Broken
broken property frame = Some (record { property = property; frame = frame })

-- The environment changes in frame 2, in which the first configuration is left. The second configuration runs in
-- frame 4.
abbrev good : List Row
good = row before (ran 1) 1 10 ∷ row before (ran 1) 1 10 ∷ row after act.Held 1 10 ∷ row after act.Held 4 10 ∷ row after (ran 2) 1 10 ∷ []

holds : first_break spec good (moved 1 2 4 ∷ []) ≡ None
holds = refl

holds_of_no_rows : first_break spec [] [] ≡ None
holds_of_no_rows = refl

-- SP1 is broken in the smaller begin at the first difference between the reports and the reconfigurations.
not_told : first_break spec good [] ≡ broken Sp1 2
not_told = refl

told_earlier : first_break spec good (moved 1 1 4 ∷ []) ≡ broken Sp1 1
told_earlier = refl

told_later : first_break spec good (moved 1 3 4 ∷ []) ≡ broken Sp1 2
told_later = refl

told_otherwise : first_break spec good (moved 0 2 4 ∷ []) ≡ broken Sp1 2
told_otherwise = refl

told_beyond : first_break spec good (moved 1 2 4 ∷ moved 1 9 12 ∷ []) ≡ broken Sp1 9
told_beyond = refl

-- SP2 is broken in the end of the reconfiguration.
abbrev unchosen : List Row
unchosen = row before (ran 1) 1 10 ∷ row before (ran 1) 1 10 ∷ row other act.Held 1 10 ∷ row other act.Held 4 10 ∷ row other (ran 2) 1 10 ∷ []

not_chosen : first_break spec unchosen (moved 1 2 4 ∷ []) ≡ broken Sp2 4
not_chosen = refl

-- SP3 is broken in the end of the reconfiguration, or in the last row if the reconfiguration is unfinished.
late : first_break (spec_of (bound 0 1 1 ∷ []) Retarget [] []) good (moved 1 2 4 ∷ []) ≡ broken Sp3 4
late = refl

just_in_time : first_break (spec_of (bound 0 1 2 ∷ []) Retarget [] []) good (moved 1 2 4 ∷ []) ≡ None
just_in_time = refl

no_bound : first_break (spec_of (bound 1 0 8 ∷ []) Retarget [] []) good (moved 1 2 4 ∷ []) ≡ broken Sp3 4
no_bound = refl

abbrev unfinished : List Row
unfinished = row before (ran 1) 1 10 ∷ row before (ran 1) 1 10 ∷ row after act.Held 1 10 ∷ row after act.Held 4 10 ∷ []

cut_late : first_break (spec_of (bound 0 1 1 ∷ bound 1 0 8 ∷ []) Retarget [] []) unfinished (cut_off 2 4 ∷ []) ≡ broken Sp3 3
cut_late = refl

cut_in_time : first_break (spec_of (bound 0 1 1 ∷ bound 0 0 2 ∷ []) Retarget [] []) unfinished (cut_off 2 4 ∷ []) ≡ None
cut_in_time = refl

-- SP4 is broken in the row that breaks an invariant or does not meet a precondition.
abbrev charged : Option ConfId → ℕ → Invariant
charged from greatest = record { from = from; app = record { 0 = 0 }; variable = 1; least = pos 0; greatest = pos greatest }

abbrev begun : ℕ → Precondition
begun status = record { conf = conf_id 1; app = record { 0 = 0 }; variable = 0; least = pos status; greatest = pos status }

abbrev spec_with : List Invariant → List Precondition → Parts
spec_with invariants preconditions = spec_of (bound 0 1 8 ∷ []) Retarget invariants preconditions

abbrev discharged : List Row
discharged = row before (ran 1) 1 10 ∷ row before (ran 1) 1 99 ∷ row after act.Held 1 10 ∷ row after act.Held 4 50 ∷ row after (ran 2) 1 60 ∷ []

unkept : first_break (spec_with (charged (Some (conf_id 0)) 40 ∷ []) []) discharged (moved 1 2 4 ∷ []) ≡ broken Sp4 3
unfolding word
unkept = refl

unkept_first : first_break (spec_with (charged None 55 ∷ charged None 40 ∷ []) []) discharged (moved 1 2 4 ∷ []) ≡ broken Sp4 3
unfolding word
unkept_first = refl

of_another_source : first_break (spec_with (charged (Some (conf_id 1)) 40 ∷ []) []) discharged (moved 1 2 4 ∷ []) ≡ None
unfolding word
of_another_source = refl

met : first_break (spec_with [] (begun 4 ∷ [])) good (moved 1 2 4 ∷ []) ≡ None
unfolding word
met = refl

unmet : first_break (spec_with [] (begun 1 ∷ [])) good (moved 1 2 4 ∷ []) ≡ broken Sp4 3
unfolding word
unmet = refl

-- SP5 is broken in the begin of the reconfiguration.
abbrev causeless : List Row
causeless = row after (ran 1) 1 10 ∷ row after (ran 1) 1 10 ∷ row after act.Held 1 10 ∷ row after act.Held 4 10 ∷ row after (ran 2) 1 10 ∷ []

no_cause : first_break spec causeless (moved 1 2 4 ∷ []) ≡ broken Sp5 2
no_cause = refl

-- Frame 0 is compared with the environment in which a flight opens, and a change in the next row suffices.
at_once : first_break spec (row before act.Held 1 10 ∷ row before act.Held 1 10 ∷ []) (cut_off 0 2 ∷ []) ≡ broken Sp5 0
at_once = refl

caused_at_once : first_break spec (row after act.Held 1 10 ∷ row after act.Held 1 10 ∷ []) (cut_off 0 2 ∷ []) ≡ None
caused_at_once = refl

caused_next : first_break spec (row before act.Lost 1 10 ∷ row after act.Held 1 10 ∷ []) (cut_off 0 2 ∷ []) ≡ None
caused_next = refl

not_asked : first_break spec (row before (ran 1) 1 10 ∷ row before act.Lost 1 10 ∷ []) (cut_off 1 2 ∷ []) ≡ None
not_asked = refl

-- A reconfiguration that begins in the row after the end of another reconfiguration, during which the environment
-- changed. Under `Settle`, that change is the cause of the later reconfiguration.
abbrev followed : List Row
followed =
    row before (ran 1) 1 10 ∷ row after act.Held 1 10 ∷ row before act.Held 4 10 ∷ row before (ran 2) 1 10 ∷ row before act.Held 1 10 ∷ row before act.Held 4 10 ∷ row before (ran 1) 1 10 ∷ []

abbrev back : Report
back = record { from = conf_id 1; to = Some (conf_id 0); begin = 4; end = 6 }

settled : first_break (spec_of (bound 0 1 8 ∷ bound 1 0 8 ∷ []) Settle [] []) followed (moved 1 1 3 ∷ back ∷ []) ≡ None
settled = refl

chosen_anew : first_break (spec_of (bound 0 1 8 ∷ bound 1 0 8 ∷ []) Retarget [] []) followed (moved 1 1 3 ∷ back ∷ []) ≡ broken Sp5 4
chosen_anew = refl

-- SP6 is broken in a calm row: the second configuration is demanded everywhere, from every source.
abbrev second_wanted : Demand
second_wanted = record { name = []; from = 0; wants = []; up = 0; down = 0; to = 2; on = replicate 8 None; off = 0 }

abbrev demanding : List Bound → Demand → Parts
demanding bounds demand = spec_with_demands bounds Retarget [] [] (demand ∷ [])

abbrev steady : Env → Row
steady v = row v (ran 1) 1 10

unsatisfied : first_break (demanding (bound 0 1 2 ∷ []) second_wanted) (steady before ∷ steady before ∷ steady before ∷ []) [] ≡ broken Sp6 2
unsatisfied = refl

not_yet_calm : first_break (demanding (bound 0 1 2 ∷ []) second_wanted) (steady before ∷ steady after ∷ steady after ∷ []) [] ≡ None
not_yet_calm = refl

calm_again : first_break (demanding (bound 0 1 2 ∷ []) second_wanted) (steady before ∷ steady after ∷ steady after ∷ steady after ∷ []) [] ≡ broken Sp6 3
calm_again = refl

at_once_calm : first_break (demanding [] second_wanted) (steady before ∷ []) [] ≡ broken Sp6 0
at_once_calm = refl

satisfied : first_break (demanding (bound 0 1 2 ∷ []) second_wanted) good (moved 1 2 4 ∷ []) ≡ None
satisfied = refl

nothing_runs : first_break (demanding (bound 0 1 2 ∷ []) second_wanted) (steady before ∷ steady before ∷ row before act.Held 1 10 ∷ []) (cut_off 2 3 ∷ []) ≡ broken Sp6 2
nothing_runs = refl

nothing_asked : first_break (demanding (bound 0 1 2 ∷ []) (record { name = []; from = 2; wants = []; up = 0; down = 0; to = 2; on = replicate 8 None; off = 0 }))
    (steady before ∷ steady before ∷ steady before ∷ []) [] ≡ None
nothing_asked = refl

lost_not_calm : first_break (demanding (bound 0 1 2 ∷ []) second_wanted) (steady before ∷ steady before ∷ row before act.Lost 1 10 ∷ []) (cut_off 2 3 ∷ []) ≡ None
lost_not_calm = refl

-- The break in the earliest frame comes first. Within one frame, the break of the property with the smallest number
-- comes first.
earlier_frame : first_break spec (row before (ran 1) 1 10 ∷ row before act.Held 1 10 ∷ row before act.Held 4 10 ∷ row before (ran 2) 1 10 ∷ []) (moved 1 1 3 ∷ []) ≡ broken Sp5 1
earlier_frame = refl

lesser_number : first_break (spec_of [] Retarget [] []) unchosen (moved 1 2 4 ∷ []) ≡ broken Sp2 4
lesser_number = refl
