-- Examples of specifications, with their first refusals and possible targets.
use Rattle.std.proofs.Common.{◌≡◌, refl, ℕ, List, [], ◌∷◌, pos}
use Rattle.std.specs.Prelude.{Some, None, replicate}
use Rattle.scram_types.specs.declared.specification.AppSpec.{AppSpec}
use Rattle.scram_types.specs.declared.specification.Bound.{Bound}
use Rattle.scram_types.specs.declared.specification.Choice.{Choice}
use Rattle.scram_types.specs.declared.specification.Conf.{Conf}
use Rattle.scram_types.specs.declared.demands.Demand.{Demand}
use Rattle.scram_types.specs.declared.specification.Invariant.{Invariant}
use Rattle.scram_types.specs.declared.specification.ModeSpec.{ModeSpec}
use Rattle.scram_types.specs.declared.specification.Policy.{Policy}
use Rattle.scram_types.specs.declared.specification.Policy.TheVariants as policy
use Rattle.scram_types.specs.Specification.{Parts}
use Rattle.scram_types.specs.Lookups.{proc_id, app_id, conf_id}
use Rattle.kind_table.specs.Bounds.{during}
use Rattle.coverage_check.specs.declared.shown.Other.TheVariants as other
use Rattle.coverage_check.specs.Acceptance.{first_refusal}
use Rattle.coverage_check.specs.Showing.{shown_at, shown_in}
use Rattle.coverage_check.specs.Timing.{targets}

abbrev mode : ℕ → ℕ → ModeSpec
mode m load = record { mode = record { 0 = m }; load = load; halt = 1; prepare = 1; init = 1 }

-- A power monitor with two modes.
abbrev monitor : AppSpec
monitor = record { name = []; kind = record { 0 = 2 }; needs = []; modes = mode 1 40 ∷ mode 2 20 ∷ []; rank = 0 }

abbrev placed : ℕ → Conf
placed m = record { name = []; places = Some (record { mode = record { 0 = m }; proc = proc_id 0 }) ∷ replicate 7 None }

abbrev pub bound : ℕ → ℕ → ℕ → Bound
bound i j frames = record { from = conf_id i; to = conf_id j; frames = frames }

-- The rule that chooses configuration 0 if the factor has its first value.
abbrev pub first_rule : Choice
first_rule = record { from = None; wants = record { factor = record { 0 = 0 }; value = 0 } ∷ []; up = 0; to = conf_id 0 }

abbrev pub other_rule : Choice
other_rule = record { from = None; wants = []; up = 0; to = conf_id 1 }

abbrev bounds : ℕ → List Bound
bounds frames = bound 0 0 8 ∷ bound 0 1 frames ∷ bound 1 0 8 ∷ bound 1 1 8 ∷ []

-- The specification with one processor, one application, two configurations, and one factor of two values, given its
-- other parts.
abbrev made_with : ℕ → List Choice → ℕ → Policy → List Invariant → List Demand → Parts
made_with capacity rules frames which invariants demands = record {
  procs = record { name = []; capacity = capacity } ∷ [];
  apps = monitor ∷ [];
  confs = placed 1 ∷ placed 2 ∷ [];
  factors = record { name = []; values = [] ∷ [] ∷ [] } ∷ [];
  rules = rules;
  bounds = bounds frames;
  start = conf_id 0;
  goal = record { altitude = pos 0; heading = pos 0 };
  invariants = invariants;
  preconditions = [];
  policy = which;
  demands = demands;
  halts = 0;
  changes = 1;
  window = 40;
}

abbrev made : ℕ → List Choice → ℕ → Policy → List Invariant → Parts
made capacity rules frames which invariants = made_with capacity rules frames which invariants []

abbrev rules : List Choice
rules = first_rule ∷ other_rule ∷ []

accepted : first_refusal (made 100 rules 8 policy.Retarget []) ≡ None
accepted = refl

short_bound : first_refusal (made 100 rules 7 policy.Retarget []) ≡ Some (shown_at 9 0 (other.Least (conf_id 1) 8))
short_bound = refl

no_rule : first_refusal (made 100 (first_rule ∷ []) 8 policy.Retarget []) ≡ Some (shown_in 5 0 (record { up = 1; factors = 1 ∷ replicate 5 0 }) other.Nothing)
no_rule = refl

too_heavy : first_refusal (made 30 rules 8 policy.Retarget []) ≡ Some (shown_at 4 0 (other.Proc (proc_id 0)))
too_heavy = refl

-- With the policy `Settle`, a reconfiguration may see one more change. Therefore its least bound is greater.
settling : first_refusal (made 100 rules 8 policy.Settle []) ≡ Some (shown_at 9 0 (other.Least (conf_id 0) 12))
settling = refl

both_targets : targets (made 100 rules 8 policy.Retarget []) (conf_id 0) ≡ 3
both_targets = refl

-- The status is 4 while a mode initialises. Therefore an interval from 1 to 3 is too narrow.
short_status : first_refusal (made 100 rules 8 policy.Retarget (record { from = Some (conf_id 1); app = app_id 0; variable = 0; least = pos 1; greatest = pos 3 } ∷ [])) ≡ Some (shown_at 11 1 (other.Item 0))
unfolding during
short_status = refl

-- Three demands: that the monitor is on in mode 2 if the factor has its second value, that configuration 0 is chosen
-- from configuration 1, and that the monitor is off if the processor is down.
abbrev saving : Demand
saving = record {
  name = [];
  from = 0;
  wants = record { factor = record { 0 = 0 }; value = 1 } ∷ [];
  up = 1;
  down = 0;
  to = 0;
  on = Some (record { 0 = 2 } ∷ []) ∷ replicate 7 None;
  off = 0;
}

abbrev going_back : Demand
going_back = record { name = []; from = 2; wants = []; up = 0; down = 0; to = 1; on = replicate 8 None; off = 0 }

abbrev off_when_down : Demand
off_when_down = record { name = []; from = 0; wants = []; up = 0; down = 1; to = 0; on = replicate 8 None; off = 1 }

demands_met : first_refusal (made_with 100 rules 8 policy.Retarget [] (saving ∷ off_when_down ∷ [])) ≡ None
demands_met = refl

second_demand : first_refusal (made_with 100 rules 8 policy.Retarget [] (saving ∷ going_back ∷ []))
    ≡ Some (shown_in 13 1 (record { up = 1; factors = 1 ∷ replicate 5 0 }) (other.Demand 1))
second_demand = refl
