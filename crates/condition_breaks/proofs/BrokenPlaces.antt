-- At each place in the list of a condition, the condition does not hold.
use Rattle.std.proofs.Common.{ℕ, ◌<◌, ◌≡◌, ◌∙◌, ◌==◌, Bool, true, false, not, [], ◌∷◌, ap, length, refl, sym}
use Rattle.std.specs.Prelude.{◌&&◌, Option, Some, None, option_map, slice_get, if◌then◌else◌}
use Rattle.std.specs.Option.{option_map_or, option_to_list}
use Rattle.scram_types.specs.declared.rows.Env.{Env}
use Rattle.scram_types.specs.declared.ids.ConfId.{ConfId}
use Rattle.scram_types.specs.declared.demands.Demand.{Demand}
use Rattle.scram_types.specs.declared.specification.Invariant.{Invariant}
use Rattle.scram_types.specs.declared.specification.Precondition.{Precondition}
use Rattle.scram_types.specs.Lookups.{app_id, conf_id, is_on, proc_id}
use Rattle.scram_types.specs.Specification.{Each, IsSpec, Parts}
use Rattle.scram_types.proofs.Booleans.{and_left, and_right, and_true}
use Rattle.scram_types.proofs.Searches.{any_below_is, found_below}
use Rattle.choice_table.specs.Numbering.{environments, is_number_in_scope, numbered}
use Rattle.coverage_check.specs.Acceptance.{IsBroken, IsBroken.NeedOff, IsBroken.ManyStates, IsBroken.NothingOn, IsBroken.SameAgain, IsBroken.Overloaded, IsBroken.Unmet, IsBroken.StartLeft, IsBroken.BoundWanting, IsBroken.WindowShort, IsBroken.InvariantBroken, IsBroken.PreconditionBroken, IsBroken.DemandMissed}
use Rattle.coverage_check.specs.Choosing.{first_unmet_env, is_unmet, leaves_start, number_of_requirement, target_shown}
use Rattle.coverage_check.specs.Demands.{first_missed_env}
use Rattle.coverage_check.specs.Form.{has_off_need, has_too_many_states, is_empty, is_overloaded, is_same, lacks_need}
use Rattle.coverage_check.specs.Holding.{breaks_entering, breaks_from}
use Rattle.coverage_check.specs.Search.{first_passing_env, passing_env_at, shown_if}
use Rattle.coverage_check.specs.Showing.{shown_at, shown_in}
use Rattle.coverage_check.specs.Timing.{has_short_window, lacks_bound}
use Rattle.coverage_check.specs.declared.choosing.Requirement.{Requirement}
use Rattle.coverage_check.specs.declared.choosing.Requirement.TheVariants as requirement
use Rattle.coverage_check.specs.declared.shown.Other.TheVariants as other
use Rattle.coverage_check.proofs.Showing.{shown_where}
use Rattle.cube_cover.specs.Demands.{misses}
use Rattle.condition_breaks.specs.declared.breaks.Break.{Break}
use Rattle.condition_breaks.specs.declared.breaks.Break.TheVariants as broken
use Rattle.condition_breaks.specs.declared.breaks.Way.{Way}
use Rattle.condition_breaks.specs.Breaks.{bound_break, bound_breaks, bound_breaks_from, breaks, choice_breaks, demand_break, demand_break_of, demand_breaks, demand_breaks_in, invariant_break, invariant_breaks, later_breaks, load_break, load_breaks, load_breaks_in, need_break, need_breaks, need_breaks_in, need_breaks_of, precondition_break, precondition_breaks, shape_break, shape_breaks, unentered_of, unheld, unheld_of, unmet_break, unmet_breaks}
use Rattle.condition_breaks.specs.Form.{first_twin, is_need_off, is_needed}
use Rattle.condition_breaks.specs.Laws.{EachIsBroken, shown_of}
use Rattle.condition_breaks.specs.Ranges.{all_ways, first_unheld}
use Rattle.condition_breaks.proofs.EachItem.{each_gathered, each_if, each_mapped, each_none, each_one, each_shown_where, each_where}
use Rattle.condition_breaks.proofs.FirstShown.{missed_of}
use Rattle.condition_breaks.proofs.Needed.{needed_off}
use Rattle.condition_breaks.proofs.WayRanges.{unheld_shown}

module _ (spec : Parts) (made : IsSpec spec) where
  Broken : Break → Type 0
  Broken found = IsBroken spec (shown_of spec found)

  -- If application `a` is on while an application `b` that it needs is off, the test `lacks_need` passes for `a`.
  lacks : (c a b : ℕ) → b < length spec.apps → is_need_off spec (conf_id c) a b ≡ true → lacks_need spec (conf_id c) a ≡ true
  lacks c a b less off =
      and_true (is_on spec (conf_id c) a) (has_off_need spec (conf_id c) a) (and_left (is_on spec (conf_id c) a) _ off)
      (sym (needed_off spec made (conf_id c) a)
      ∙ any_below_is (λ n. is_needed spec a n && not (is_on spec (conf_id c) n)) (length spec.apps) b (and_right (is_on spec (conf_id c) a) _ off) less)

  need_broken : Each Broken (need_breaks spec)
  unfolding Broken
  need_broken = each_gathered Broken (need_breaks_in spec) (length spec.confs) (λ c inside.
      each_gathered Broken (need_breaks_of spec c) (length spec.apps) (λ a there.
      each_gathered Broken (need_break spec c a) (length spec.apps) (λ b less.
      each_where Broken (is_need_off spec (conf_id c) a b) (broken.NeedOff (conf_id c) (app_id a) (app_id b)) (λ off.
      NeedOff c a inside there (lacks c a b less off) refl))))

  twin_broken : (c : ℕ) → c < length spec.confs → (d : ConfId) → first_twin spec c ≡ Some d → Broken (broken.SameAgain (conf_id c) d)
  unfolding Broken
  twin_broken c inside d e =
      let found = found_below (λ n. shown_if (is_same spec (conf_id c) (conf_id n)) (conf_id n)) c d e in
      let is = shown_where (is_same spec (conf_id c) (conf_id found.0)) (conf_id found.0) d found.2 in
      SameAgain c found.0 inside found.1 is.0 (ap (λ (twin : ConfId). shown_at 3 c (other.Conf twin)) is.1)

  shape_broken_of : (c : ℕ) → c < length spec.confs → (empty : Bool) → is_empty spec (conf_id c) ≡ empty
      → Each Broken (if empty then broken.NothingOn (conf_id c) ∷ [] else option_to_list (option_map (λ (d : ConfId). broken.SameAgain (conf_id c) d) (first_twin spec c)))
  unfolding Broken
  shape_broken_of c inside true is = each_one Broken (broken.NothingOn (conf_id c)) (NothingOn c inside is refl)
  shape_broken_of c inside false is =
      each_mapped Broken (λ (d : ConfId). broken.SameAgain (conf_id c) d) (first_twin spec c) (λ d e. twin_broken c inside d e)

  shape_broken : Each Broken (shape_breaks spec)
  shape_broken = each_gathered Broken (shape_break spec) (length spec.confs) (λ c inside. shape_broken_of c inside (is_empty spec (conf_id c)) refl)

  load_broken : Each Broken (load_breaks spec)
  unfolding Broken
  load_broken = each_gathered Broken (load_breaks_in spec) (length spec.confs) (λ c inside.
      each_gathered Broken (load_break spec c) (length spec.procs) (λ p there.
      each_where Broken (is_overloaded spec (conf_id c) p) (broken.Overloaded (conf_id c) (proc_id p)) (λ over. Overloaded c p inside there over refl)))

  -- If the search for the first environment that passes a test finds `v`, then `v` has a number in scope and passes
  -- the test.
  passing : (test : Env → Bool) (v : Env) → first_passing_env spec test ≡ Some v
      → (n : ℕ) × (n < environments spec) × (is_number_in_scope spec n ≡ true) × (test (numbered spec n) ≡ true) × (v ≡ numbered spec n)
  passing test v e =
      let n = found_below (passing_env_at spec test) (environments spec) v e in
      let is = shown_where (is_number_in_scope spec n.0 && test (numbered spec n.0)) (numbered spec n.0) v n.2 in
      (n.0, n.1, and_left (is_number_in_scope spec n.0) _ is.0, and_right (is_number_in_scope spec n.0) _ is.0, is.1)

  unmet_broken : (asked : Requirement) → Each Broken (unmet_breaks spec asked)
  unfolding Broken
  unmet_broken asked = each_gathered Broken (unmet_break spec asked) (length spec.confs) (λ c inside.
      each_mapped Broken (λ (v : Env). broken.Unmet asked (conf_id c) v) (first_unmet_env spec asked (conf_id c)) (λ v e.
      (let n = passing (is_unmet spec asked (conf_id c)) v e in
      Unmet asked c n.0 inside n.1 n.2 n.3
      (ap (λ (w : Env). shown_in (number_of_requirement asked) c w (target_shown spec asked (conf_id c) w)) n.4))))

  bound_broken : Each Broken (bound_breaks spec)
  unfolding Broken
  bound_broken = each_gathered Broken (bound_breaks_from spec) (length spec.confs) (λ i inside.
      each_gathered Broken (bound_break spec i) (length spec.confs) (λ j there.
      each_where Broken (lacks_bound spec (conf_id i) j) (broken.BoundLacking (conf_id i) (conf_id j)) (λ lacking. BoundWanting i j inside there lacking refl)))

  unheld_broken : (k : ℕ) (inv : Invariant) → slice_get spec.invariants k ≡ Some inv → (taken : Way) → first_unheld spec inv (all_ways spec) ≡ Some taken → Broken (unheld spec k inv taken)
  unfolding Broken
  unheld_broken k inv there taken e =
      let shown = sym (unheld_shown spec inv (λ (c : ConfId). shown_at 11 c.0 (other.Item k))) ∙ ap (option_map (λ (one : Way). shown_at 11 (one.from).0 (other.Item k))) e in
      let i = found_below (λ n. shown_if (breaks_from spec inv (conf_id n)) (shown_at 11 n (other.Item k))) (length spec.confs) (shown_at 11 (taken.from).0 (other.Item k)) shown in
      let is = shown_where (breaks_from spec inv (conf_id i.0)) (shown_at 11 i.0 (other.Item k)) (shown_at 11 (taken.from).0 (other.Item k)) i.2 in
      InvariantBroken k i.0 inv there i.1 is.0 is.1

  invariant_broken_of : (k : ℕ) (o : Option Invariant) → slice_get spec.invariants k ≡ o → Each Broken (option_to_list (option_map_or (unheld_of spec k) o None))
  invariant_broken_of k None there = each_none Broken
  invariant_broken_of k (Some inv) there = each_mapped Broken (unheld spec k inv) (first_unheld spec inv (all_ways spec)) (λ taken e. unheld_broken k inv there taken e)

  invariant_broken : Each Broken (invariant_breaks spec)
  invariant_broken = each_gathered Broken (invariant_break spec) (length spec.invariants) (λ k inside. invariant_broken_of k (slice_get spec.invariants k) refl)

  precondition_broken_of : (k : ℕ) (o : Option Precondition) → slice_get spec.preconditions k ≡ o → Each Broken (option_to_list (option_map_or (unentered_of spec k) o None))
  unfolding Broken
  precondition_broken_of k None there = each_none Broken
  precondition_broken_of k (Some pre) there = each_shown_where Broken (breaks_entering spec pre) (broken.PreconditionMissed k) (λ breaks.
      PreconditionBroken k pre there breaks (missed_of spec made k pre there))

  precondition_broken : Each Broken (precondition_breaks spec)
  precondition_broken = each_gathered Broken (precondition_break spec) (length spec.preconditions) (λ k inside.
      precondition_broken_of k (slice_get spec.preconditions k) refl)

  demand_broken_of : (c k : ℕ) → c < length spec.confs → (o : Option Demand) → slice_get spec.demands k ≡ o → Each Broken (option_map_or (demand_break_of spec c k) o [])
  unfolding Broken
  demand_broken_of c k inside None there = each_none Broken
  demand_broken_of c k inside (Some demand) there =
      each_mapped Broken (λ (v : Env). broken.DemandMissed (conf_id c) k v) (first_missed_env spec demand (conf_id c)) (λ v e.
      (let n = passing (misses spec demand (conf_id c)) v e in
      DemandMissed c k n.0 demand inside there n.1 n.2 n.3 (ap (λ (w : Env). shown_in 13 c w (other.Demand k)) n.4)))

  demand_broken : Each Broken (demand_breaks spec)
  demand_broken = each_gathered Broken (demand_breaks_in spec) (length spec.confs) (λ c inside.
      each_gathered Broken (demand_break spec c) (length spec.demands) (λ k there. demand_broken_of c k inside (slice_get spec.demands k) refl))

  later_broken : (condition : ℕ) → Each Broken (later_breaks spec condition)
  unfolding Broken
  later_broken condition =
      each_if Broken (condition == 9) _ _ bound_broken
      (each_if Broken (condition == 10) _ _ (each_where Broken (has_short_window spec) broken.WindowShort (λ short. WindowShort short refl))
      (each_if Broken (condition == 11) _ _ invariant_broken
      (each_if Broken (condition == 12) _ _ precondition_broken
      (each_if Broken (condition == 13) _ _ demand_broken (each_none Broken)))))

  choice_broken : (condition : ℕ) → Each Broken (choice_breaks spec condition)
  unfolding Broken
  choice_broken condition =
      each_if Broken (condition == 5) _ _ (unmet_broken requirement.HasRule)
      (each_if Broken (condition == 6) _ _ (unmet_broken requirement.CanRun)
      (each_if Broken (condition == 7) _ _ (unmet_broken requirement.Stays)
      (each_if Broken (condition == 8) _ _ (each_where Broken (leaves_start spec) broken.StartLeft (λ left. StartLeft left refl)) (later_broken condition))))

  pub each_broken : (condition : ℕ) → Each (λ (found : Break). IsBroken spec (shown_of spec found)) (breaks spec condition)
  unfolding Broken
  each_broken condition =
      each_if Broken (condition == 1) _ _ need_broken
      (each_if Broken (condition == 2) _ _ (each_where Broken (has_too_many_states spec) broken.ManyStates (λ many. ManyStates many refl))
      (each_if Broken (condition == 3) _ _ shape_broken
      (each_if Broken (condition == 4) _ _ load_broken (choice_broken condition))))

pub each_is_broken : EachIsBroken
each_is_broken = each_broken
