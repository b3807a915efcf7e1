-- The condition in a refusal is broken at the place in the refusal.
use Rattle.std.proofs.Common.{◌≡◌, ℕ, ◌<◌, Bool, true, false, refl, sym, length}
use mathlib.Core.Logic.{inl, inr}
use Rattle.std.specs.Prelude.{◌&&◌, Option, Some, None, option_map, slice_get}
use Rattle.std.specs.Option.{option_map_or, option_or}
use Rattle.scram_types.specs.Specification.{Parts}
use Rattle.scram_types.specs.Lookups.{conf_id}
use Rattle.scram_types.proofs.Booleans.{and_left, and_right}
use Rattle.scram_types.proofs.Searches.{found_below}
use Rattle.scram_types.proofs.Options.{same_some, some_either, some_none}
use Rattle.cube_cover.specs.Demands.{misses}
use Rattle.choice_table.specs.Numbering.{environments, is_number_in_scope, numbered}
use Rattle.coverage_check.specs.declared.choosing.Requirement.{Requirement}
use Rattle.coverage_check.specs.declared.choosing.Requirement.TheVariants as requirement
use Rattle.coverage_check.specs.declared.shown.Shown.{Shown}
use Rattle.coverage_check.specs.Form.{has_too_many_states, is_empty, is_overloaded, is_same, lacks_need, load_refusal, load_refusal_in, need_refusal, need_refusal_in, shape_refusal, shape_refusal_of, state_refusal, twin_refusal_of}
use Rattle.coverage_check.specs.Choosing.{first_unmet_env, is_unmet, leaves_start, requirement_refusal, requirement_refusal_of, start_refusal}
use Rattle.coverage_check.specs.Timing.{bound_refusal, bound_refusal_of, has_short_window, lacks_bound, window_refusal}
use Rattle.coverage_check.specs.Holding.{breaks_entering, breaks_from, invariant_refusal, invariant_refusal_at, invariant_refusal_of, precondition_refusal, precondition_refusal_at, precondition_refusal_of}
use Rattle.coverage_check.specs.Search.{passing_env_at}
use Rattle.coverage_check.specs.Demands.{demand_refusal, demand_refusal_at, demand_refusal_in, demand_refusal_of, first_missed_env}
use Rattle.coverage_check.specs.Acceptance.{IsBroken, IsBroken.NeedOff, IsBroken.ManyStates, IsBroken.NothingOn, IsBroken.SameAgain, IsBroken.Overloaded, IsBroken.Unmet, IsBroken.StartLeft, IsBroken.BoundWanting, IsBroken.WindowShort, IsBroken.InvariantBroken, IsBroken.PreconditionBroken, IsBroken.DemandMissed, ShownIsBroken, choice_refusal, form_refusal, range_refusal, time_refusal}
use Rattle.coverage_check.proofs.Showing.{shown_where}

at_some : {A B : Type 0} (o : Option A) (f : A → Option B) (y : B) → option_map_or f o None ≡ Some y → (x : A) × (o ≡ Some x) × (f x ≡ Some y)
at_some None f y e = some_none y (sym e)
at_some (Some x) f y e = (x, refl, e)

mapped : {A B : Type 0} (f : A → B) (o : Option A) (y : B) → option_map f o ≡ Some y → (x : A) × (o ≡ Some x) × (y ≡ f x)
mapped f None y e = some_none y (sym e)
mapped f (Some x) y e = (x, refl, sym (same_some (f x) y e))

module _ (spec : Parts) (shown : Shown) where
  need_broken : need_refusal spec ≡ Some shown → IsBroken spec shown
  need_broken e =
      let c = found_below (need_refusal_in spec) (length spec.confs) shown e in
      let a = found_below _ (length spec.apps) shown c.2 in
      let is = shown_where (lacks_need spec (conf_id c.0) a.0) _ shown a.2 in
      NeedOff c.0 a.0 c.1 a.1 is.0 is.1

  state_broken : state_refusal spec ≡ Some shown → IsBroken spec shown
  state_broken e = let is = shown_where (has_too_many_states spec) _ shown e in ManyStates is.0 is.1

  twin_broken : (c : ℕ) → c < length spec.confs → twin_refusal_of spec c ≡ Some shown → IsBroken spec shown
  twin_broken c known e =
      let d = found_below _ c shown e in
      let is = shown_where (is_same spec (conf_id c) (conf_id d.0)) _ shown d.2 in
      SameAgain c d.0 known d.1 is.0 is.1

  shaped_broken : (c : ℕ) (empty : Bool) → c < length spec.confs → is_empty spec (conf_id c) ≡ empty → shape_refusal_of spec c ≡ Some shown → IsBroken spec shown
  shaped_broken c true known is e = NothingOn c known is (sym (same_some _ shown (rw (is) at e)))
  shaped_broken c false known is e = twin_broken c known (rw (is) at e)

  shape_broken : shape_refusal spec ≡ Some shown → IsBroken spec shown
  shape_broken e =
      let c = found_below (shape_refusal_of spec) (length spec.confs) shown e in
      shaped_broken c.0 (is_empty spec (conf_id c.0)) c.1 refl c.2

  load_broken : load_refusal spec ≡ Some shown → IsBroken spec shown
  load_broken e =
      let c = found_below (load_refusal_in spec) (length spec.confs) shown e in
      let p = found_below _ (length spec.procs) shown c.2 in
      let is = shown_where (is_overloaded spec (conf_id c.0) p.0) _ shown p.2 in
      Overloaded c.0 p.0 c.1 p.1 is.0 is.1

  requirement_broken : (asked : Requirement) → requirement_refusal spec asked ≡ Some shown → IsBroken spec shown
  requirement_broken asked e =
      let c = found_below (requirement_refusal_of spec asked) (length spec.confs) shown e in
      let v = mapped _ (first_unmet_env spec asked (conf_id c.0)) shown c.2 in
      let n = found_below (passing_env_at spec (is_unmet spec asked (conf_id c.0))) (environments spec) v.0 v.1 in
      let is = shown_where (is_number_in_scope spec n.0 && is_unmet spec asked (conf_id c.0) (numbered spec n.0)) (numbered spec n.0) v.0 n.2 in
      Unmet asked c.0 n.0 c.1 n.1 (and_left (is_number_in_scope spec n.0) _ is.0) (and_right (is_number_in_scope spec n.0) _ is.0) (rw (is.1) at v.2)

  start_broken : start_refusal spec ≡ Some shown → IsBroken spec shown
  start_broken e = let is = shown_where (leaves_start spec) _ shown e in StartLeft is.0 is.1

  bound_broken : bound_refusal spec ≡ Some shown → IsBroken spec shown
  bound_broken e =
      let i = found_below (bound_refusal_of spec) (length spec.confs) shown e in
      let j = found_below _ (length spec.confs) shown i.2 in
      let is = shown_where (lacks_bound spec (conf_id i.0) j.0) _ shown j.2 in
      BoundWanting i.0 j.0 i.1 j.1 is.0 is.1

  window_broken : window_refusal spec ≡ Some shown → IsBroken spec shown
  window_broken e = let is = shown_where (has_short_window spec) _ shown e in WindowShort is.0 is.1

  invariant_broken : invariant_refusal spec ≡ Some shown → IsBroken spec shown
  invariant_broken e =
      let k = found_below (invariant_refusal_at spec) (length spec.invariants) shown e in
      let inv = at_some (slice_get spec.invariants k.0) (invariant_refusal_of spec k.0) shown k.2 in
      let i = found_below _ (length spec.confs) shown inv.2 in
      let is = shown_where (breaks_from spec inv.0 (conf_id i.0)) _ shown i.2 in
      InvariantBroken k.0 i.0 inv.0 inv.1 i.1 is.0 is.1

  precondition_broken : precondition_refusal spec ≡ Some shown → IsBroken spec shown
  precondition_broken e =
      let k = found_below (precondition_refusal_at spec) (length spec.preconditions) shown e in
      let pre = at_some (slice_get spec.preconditions k.0) (precondition_refusal_of spec k.0) shown k.2 in
      let is = shown_where (breaks_entering spec pre.0) _ shown pre.2 in
      PreconditionBroken k.0 pre.0 pre.1 is.0 is.1

  demand_broken : demand_refusal spec ≡ Some shown → IsBroken spec shown
  demand_broken e =
      let c = found_below (demand_refusal_in spec) (length spec.confs) shown e in
      let k = found_below (demand_refusal_at spec c.0) (length spec.demands) shown c.2 in
      let demand = at_some (slice_get spec.demands k.0) (demand_refusal_of spec c.0 k.0) shown k.2 in
      let v = mapped _ (first_missed_env spec demand.0 (conf_id c.0)) shown demand.2 in
      let n = found_below (passing_env_at spec (misses spec demand.0 (conf_id c.0))) (environments spec) v.0 v.1 in
      let is = shown_where (is_number_in_scope spec n.0 && misses spec demand.0 (conf_id c.0) (numbered spec n.0)) (numbered spec n.0) v.0 n.2 in
      DemandMissed c.0 k.0 n.0 demand.0 c.1 demand.1 n.1 (and_left (is_number_in_scope spec n.0) _ is.0) (and_right (is_number_in_scope spec n.0) _ is.0) (rw (is.1) at v.2)

  form_broken : form_refusal spec ≡ Some shown → IsBroken spec shown
  form_broken e = elim (some_either (need_refusal spec) _ shown e) [
    | inl here ↦ need_broken here
    | inr later ↦ elim (some_either (state_refusal spec) (option_or (shape_refusal spec) (load_refusal spec)) shown later) [
      | inl here ↦ state_broken here
      | inr last ↦ elim (some_either (shape_refusal spec) (load_refusal spec) shown last) [ inl here ↦ shape_broken here | inr load ↦ load_broken load ]
    ]
  ]

  choice_broken : choice_refusal spec ≡ Some shown → IsBroken spec shown
  choice_broken e = elim (some_either (requirement_refusal spec requirement.HasRule) _ shown e) [
    | inl here ↦ requirement_broken requirement.HasRule here
    | inr later ↦ elim (some_either (requirement_refusal spec requirement.CanRun) (option_or (requirement_refusal spec requirement.Stays) (start_refusal spec)) shown later) [
      | inl here ↦ requirement_broken requirement.CanRun here
      | inr last ↦ elim (some_either (requirement_refusal spec requirement.Stays) (start_refusal spec) shown last) [ inl here ↦ requirement_broken requirement.Stays here | inr start ↦ start_broken start ]
    ]
  ]

  time_broken : time_refusal spec ≡ Some shown → IsBroken spec shown
  time_broken e = elim (some_either (bound_refusal spec) (window_refusal spec) shown e) [ inl here ↦ bound_broken here | inr last ↦ window_broken last ]

  range_broken : range_refusal spec ≡ Some shown → IsBroken spec shown
  range_broken e = elim (some_either (invariant_refusal spec) (precondition_refusal spec) shown e) [ inl here ↦ invariant_broken here | inr last ↦ precondition_broken last ]

pub shown_is_broken : ShownIsBroken
shown_is_broken spec shown e = elim (some_either (form_refusal spec) _ shown e) [
  | inl here ↦ form_broken spec shown here
  | inr later ↦ elim (some_either (choice_refusal spec) (option_or (time_refusal spec) (option_or (range_refusal spec) (demand_refusal spec))) shown later) [
    | inl here ↦ choice_broken spec shown here
    | inr last ↦ elim (some_either (time_refusal spec) (option_or (range_refusal spec) (demand_refusal spec)) shown last) [
      | inl here ↦ time_broken spec shown here
      | inr rest ↦ elim (some_either (range_refusal spec) (demand_refusal spec) shown rest) [ inl ranges ↦ range_broken spec shown ranges | inr demand ↦ demand_broken spec shown demand ]
    ]
  ]
]
