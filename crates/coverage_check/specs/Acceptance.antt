-- The conditions A1 to A13 under which a specification is accepted, and the refusal if some condition does not hold.
use Rattle.std.specs.Prelude.{◌≡◌, ◌≢◌, ◌⊎◌, ℕ, ◌+◌, ◌<◌, ◌≤◌, true, false, length, slice_get, Option, Some, None}
use Rattle.std.specs.Option.{option_or}
use Rattle.scram_types.specs.declared.limits.TheConstants.{MAX_ENVIRONMENTS}
use Rattle.scram_types.specs.declared.ids.ConfId.{ConfId}
use Rattle.scram_types.specs.declared.rows.Env.{Env}
use Rattle.scram_types.specs.declared.specification.Bound.{Bound}
use Rattle.scram_types.specs.declared.demands.Demand.{Demand}
use Rattle.scram_types.specs.declared.specification.Invariant.{Invariant}
use Rattle.scram_types.specs.declared.specification.Precondition.{Precondition}
use Rattle.scram_types.specs.Specification.{Each, IsSpec, Parts, bound_in}
use Rattle.scram_types.specs.Lookups.{place_of, conf_id, app_id, proc_id, opening_env}
use Rattle.choice_table.specs.Environments.{IsEnv, in_scope}
use Rattle.choice_table.specs.Choices.{IsTarget, choose, has_rule, has_source, is_runnable}
use Rattle.choice_table.specs.Demands.{applies_from, applies_in, is_met}
use Rattle.choice_table.specs.Numbering.{environments, is_number_in_scope, numbered, states}
use Rattle.cube_cover.specs.Demands.{misses}
use Rattle.coverage_check.specs.declared.shown.Shown.{Shown}
use Rattle.coverage_check.specs.declared.shown.Other.TheVariants as other
use Rattle.coverage_check.specs.declared.choosing.Requirement.{Requirement}
use Rattle.coverage_check.specs.declared.choosing.Requirement.TheVariants as requirement
use Rattle.coverage_check.specs.Showing.{shown_at, shown_in, shown_nowhere}
use Rattle.coverage_check.specs.Form.{has_too_many_states, is_empty, is_overloaded, is_same, lacks_need, load_refusal, need_refusal, shape_refusal, state_refusal}
use Rattle.coverage_check.specs.Choosing.{requirement_refusal, is_unmet, leaves_start, number_of_requirement, start_refusal, target_shown}
use Rattle.coverage_check.specs.Timing.{bound_refusal, further, greatest_bound, has_short_window, lacks_bound, least, window_refusal}
use Rattle.coverage_check.specs.Holding.{breaks_entering, breaks_from, holds_entering, holds_leaving, holds_reaching, invariant_refusal, precondition_refusal}
use Rattle.coverage_check.specs.Demands.{demand_refusal}

-- The first refusal by A1 to A4, or `None` if these conditions hold.
abbrev pub form_refusal : Parts → Option Shown
form_refusal spec = option_or (need_refusal spec) (option_or (state_refusal spec) (option_or (shape_refusal spec) (load_refusal spec)))

-- The first refusal by A5 to A8, or `None` if these conditions hold.
abbrev pub choice_refusal : Parts → Option Shown
choice_refusal spec =
    option_or (requirement_refusal spec requirement.HasRule) (option_or (requirement_refusal spec requirement.CanRun)
    (option_or (requirement_refusal spec requirement.Stays) (start_refusal spec)))

-- The first refusal by A9 and A10, or `None` if these conditions hold.
abbrev pub time_refusal : Parts → Option Shown
time_refusal spec = option_or (bound_refusal spec) (window_refusal spec)

-- The first refusal by A11 and A12, or `None` if these conditions hold.
abbrev pub range_refusal : Parts → Option Shown
range_refusal spec = option_or (invariant_refusal spec) (precondition_refusal spec)

-- The refusal by the first condition that a specification breaks, at the first place where that condition is broken,
-- or `None` if the specification breaks none.
abbrev pub first_refusal : Parts → Option Shown
first_refusal spec =
    option_or (form_refusal spec) (option_or (choice_refusal spec)
    (option_or (time_refusal spec) (option_or (range_refusal spec) (demand_refusal spec))))

-- An application is on in configuration `c`, and no earlier configuration gives all applications the same modes and
-- processors.
pub record IsShaped (spec : Parts) (c : ConfId) : Type 0 where
  pub something_on : is_empty spec c ≡ false
  pub differs : (d : ConfId) → d.0 < c.0 → is_same spec c d ≡ false

-- A bound from `i` to `j` is given and suffices.
pub record IsServed (spec : Parts) (i j : ConfId) : Type 0 where
  pub frames : ℕ
  pub given : bound_in spec.bounds i.0 j.0 ≡ Some frames
  pub serves : least spec i j ≤ frames

-- The interval of an invariant contains all values that its variable can have during reconfigurations from `i`.
pub record IsKept (spec : Parts) (inv : Invariant) (i : ConfId) : Type 0 where
  pub leaving : holds_leaving spec inv (place_of spec i inv.app.0) ≡ true
  pub reaching : (j : ConfId) → IsTarget spec i j → holds_reaching spec inv (place_of spec j inv.app.0) ≡ true

-- The specification satisfies the conditions A1 to A13, under which it is accepted.
pub record Accepts (spec : Parts) : Type 0 where
  pub needs_on : (c : ConfId) (a : ℕ) → c.0 < length spec.confs → a < length spec.apps → lacks_need spec c a ≡ false
  pub few_states : states spec ≤ MAX_ENVIRONMENTS
  pub shaped : (c : ConfId) → c.0 < length spec.confs → IsShaped spec c
  pub carried : (c : ConfId) (p : ℕ) → c.0 < length spec.confs → p < length spec.procs → is_overloaded spec c p ≡ false
  pub ruled : (c : ConfId) (v : Env) → c.0 < length spec.confs → IsEnv spec v → in_scope spec v ≡ true → has_rule spec c v ≡ true
  pub runs : (c : ConfId) (v : Env) → c.0 < length spec.confs → IsEnv spec v → in_scope spec v ≡ true → is_runnable spec (choose spec c v) v ≡ true
  pub stays : (c : ConfId) (v : Env) → c.0 < length spec.confs → IsEnv spec v → in_scope spec v ≡ true → choose spec (choose spec c v) v ≡ choose spec c v
  pub starts : choose spec spec.start (opening_env spec) ≡ spec.start
  pub bounded : (i j : ConfId) → i.0 < length spec.confs → IsTarget spec i j → (i.0 ≢ j.0) ⊎ (1 ≤ further spec.policy spec.changes) → IsServed spec i j
  pub windowed : Each (λ (bound : Bound). bound.frames + 1 ≤ spec.window) spec.bounds
  pub kept : Each (λ (inv : Invariant). (i : ConfId) → i.0 < length spec.confs → has_source inv.from i ≡ true → IsKept spec inv i) spec.invariants
  pub entered : Each (λ (pre : Precondition). holds_entering spec pre (place_of spec pre.conf pre.app.0) ≡ true) spec.preconditions
  pub demanded : (c : ConfId) (v : Env) → c.0 < length spec.confs → IsEnv spec v → in_scope spec v ≡ true
      → Each (λ (demand : Demand). applies_from demand c ≡ true → applies_in demand v ≡ true → is_met spec demand (choose spec c v) ≡ true) spec.demands

-- A specification has no refusal if and only if it is accepted.
pub record AcceptedIffUnrefused (spec : Parts) : Type 0 where
  pub accepted : first_refusal spec ≡ None → Accepts spec
  pub unrefused : Accepts spec → first_refusal spec ≡ None

-- Each specification is accepted if and only if it has no refusal.
abbrev pub AcceptsIffUnrefused : Type 0
AcceptsIffUnrefused = (spec : Parts) → IsSpec spec → AcceptedIffUnrefused spec

-- The place in a refusal exists in the specification, and the condition in the refusal is broken there.
pub data IsBroken (spec : Parts) (shown : Shown) : Type 0 where
  NeedOff : (c a : ℕ) → c < length spec.confs → a < length spec.apps → lacks_need spec (conf_id c) a ≡ true
      → shown ≡ shown_at 1 c (other.App (app_id a)) → IsBroken spec shown
  ManyStates : has_too_many_states spec ≡ true → shown ≡ shown_nowhere 2 (other.Count (states spec)) → IsBroken spec shown
  NothingOn : (c : ℕ) → c < length spec.confs → is_empty spec (conf_id c) ≡ true → shown ≡ shown_at 3 c other.Nothing → IsBroken spec shown
  SameAgain : (c d : ℕ) → c < length spec.confs → d < c → is_same spec (conf_id c) (conf_id d) ≡ true
      → shown ≡ shown_at 3 c (other.Conf (conf_id d)) → IsBroken spec shown
  Overloaded : (c p : ℕ) → c < length spec.confs → p < length spec.procs → is_overloaded spec (conf_id c) p ≡ true
      → shown ≡ shown_at 4 c (other.Proc (proc_id p)) → IsBroken spec shown
  Unmet : (asked : Requirement) (c n : ℕ) → c < length spec.confs → n < environments spec → is_number_in_scope spec n ≡ true
      → is_unmet spec asked (conf_id c) (numbered spec n) ≡ true
      → shown ≡ shown_in (number_of_requirement asked) c (numbered spec n) (target_shown spec asked (conf_id c) (numbered spec n)) → IsBroken spec shown
  StartLeft : leaves_start spec ≡ true
      → shown ≡ shown_in 8 spec.start.0 (opening_env spec) (other.Conf (choose spec spec.start (opening_env spec))) → IsBroken spec shown
  BoundWanting : (i j : ℕ) → i < length spec.confs → j < length spec.confs → lacks_bound spec (conf_id i) j ≡ true
      → shown ≡ shown_at 9 i (other.Least (conf_id j) (least spec (conf_id i) (conf_id j))) → IsBroken spec shown
  WindowShort : has_short_window spec ≡ true → shown ≡ shown_nowhere 10 (other.Count (greatest_bound spec.bounds)) → IsBroken spec shown
  InvariantBroken : (k i : ℕ) (inv : Invariant) → slice_get spec.invariants k ≡ Some inv → i < length spec.confs → breaks_from spec inv (conf_id i) ≡ true
      → shown ≡ shown_at 11 i (other.Item k) → IsBroken spec shown
  PreconditionBroken : (k : ℕ) (pre : Precondition) → slice_get spec.preconditions k ≡ Some pre → breaks_entering spec pre ≡ true
      → shown ≡ shown_at 12 pre.conf.0 (other.Item k) → IsBroken spec shown
  DemandMissed : (c k n : ℕ) (demand : Demand) → c < length spec.confs → slice_get spec.demands k ≡ Some demand
      → n < environments spec → is_number_in_scope spec n ≡ true → misses spec demand (conf_id c) (numbered spec n) ≡ true
      → shown ≡ shown_in 13 c (numbered spec n) (other.Demand k) → IsBroken spec shown

-- If a specification has a refusal, the condition in its first refusal is broken at the place in that refusal.
abbrev pub ShownIsBroken : Type 0
ShownIsBroken = (spec : Parts) (shown : Shown) → first_refusal spec ≡ Some shown → IsBroken spec shown
