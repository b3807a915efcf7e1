-- A specification has no refusal if and only if it is accepted.
use Rattle.std.proofs.Common.{◌≡◌, ◌≢◌, ℕ, zero, suc, ◌+◌, ◌<◌, ◌≤◌, Bool, true, false, not, refl, arith, ◌⊎◌, ap, sym, subst, List, [], ◌∷◌, length}
use mathlib.Core.Logic.{inl, inr}
use Rattle.std.specs.Prelude.{◌&&◌, ◌||◌, ◌==◌, Option, Some, None, if◌then◌else◌, nat_le, option_map, slice_get}
use Rattle.std.specs.Option.{option_map_or, option_or}
use Rattle.std.proofs.lemmas.Option.{slice_get_within}
use Rattle.std.proofs.lemmas.Bool.{not-true, not-false, not_from_true}
use Rattle.scram_types.proofs.Naturals.{below, at_most_test, at_most, not_below_test, not_below, below_test, equal_test, equal}
use Rattle.scram_types.specs.declared.limits.TheConstants.{MAX_ENVIRONMENTS}
use Rattle.scram_types.specs.declared.ids.ConfId.{ConfId}
use Rattle.scram_types.specs.declared.rows.Env.{Env}
use Rattle.scram_types.specs.declared.specification.Bound.{Bound}
use Rattle.scram_types.specs.declared.demands.Demand.{Demand}
use Rattle.scram_types.specs.declared.specification.Invariant.{Invariant}
use Rattle.scram_types.specs.declared.specification.Precondition.{Precondition}
use Rattle.scram_types.specs.Specification.{IsSpec, Parts, bound_in}
use Rattle.scram_types.specs.Lookups.{place_of, conf_id, opening_env}
use Rattle.scram_types.proofs.Searches.{all_each, below_none, each_all, none_below}
use Rattle.scram_types.proofs.Booleans.{and_left, and_right, by_bool, or_cases, true_false, and_true, and_false, both_false}
use Rattle.scram_types.proofs.Options.{none_both, none_left, none_right, some_none}
use Rattle.scram_types.proofs.Equality.{same_conf}
use Rattle.choice_table.specs.Environments.{IsEnv, in_scope}
use Rattle.choice_table.specs.Choices.{IsTarget, choose, has_rule, has_source, is_runnable}
use Rattle.choice_table.specs.Demands.{applies_from, applies_in, is_met}
use Rattle.choice_table.specs.Numbering.{states}
use Rattle.cube_cover.specs.Demands.{misses}
use Rattle.cube_cover.proofs.Targets.{choose_inside}
use Rattle.coverage_check.specs.declared.choosing.Requirement.{Requirement}
use Rattle.coverage_check.specs.declared.choosing.Requirement.TheVariants as requirement
use Rattle.coverage_check.specs.Form.{is_empty, is_overloaded, is_same, lacks_need, load_refusal, load_refusal_in, need_refusal, need_refusal_in, shape_refusal, shape_refusal_of, state_refusal, twin_refusal_of}
use Rattle.coverage_check.specs.Choosing.{first_unmet_env, is_unmet, leaves_start, requirement_refusal, requirement_refusal_of, start_refusal}
use Rattle.coverage_check.specs.Timing.{bound_refusal, bound_refusal_of, can_return, further, greatest_bound, has_short_window, is_bound_asked, is_bounded, is_target, lacks_bound, least, window_refusal}
use Rattle.coverage_check.specs.Holding.{breaks_entering, breaks_from, holds_entering, holds_from, holds_leaving, holds_on_way, holds_reached, invariant_refusal, invariant_refusal_at, invariant_refusal_of, precondition_refusal, precondition_refusal_at, precondition_refusal_of}
use Rattle.coverage_check.specs.Demands.{demand_refusal, demand_refusal_at, demand_refusal_in, demand_refusal_of, first_missed_env}
use Rattle.coverage_check.specs.Acceptance.{Accepts, AcceptsIffUnrefused, IsKept, IsServed, IsShaped, choice_refusal, first_refusal, form_refusal, range_refusal, time_refusal}
use Rattle.coverage_check.proofs.Showing.{none_shown, not_shown}
use Rattle.coverage_check.proofs.Reaching.{first_is_least, passes_nowhere, target_test, target_tested}

if_none : {A : Type 0} (b : Bool) (x : A) (o : Option A) → (if b then Some x else o) ≡ None → (b ≡ false) × (o ≡ None)
if_none true x o e = some_none x e
if_none false x o e = (refl, e)

none_if : {A : Type 0} (b : Bool) (x : A) (o : Option A) → b ≡ false → o ≡ None → (if b then Some x else o) ≡ None
none_if b x o e f = rw (e) f

map_none : {A B : Type 0} (f : A → B) (o : Option A) → option_map f o ≡ None → o ≡ None
map_none f None e = refl
map_none f (Some x) e = some_none (f x) e

none_map : {A B : Type 0} (f : A → B) (o : Option A) → o ≡ None → option_map f o ≡ None
none_map f o e = rw (e) refl

implied : (a b : Bool) → (not a || b) ≡ true → a ≡ true → b ≡ true
implied true b e h = e
implied false b e h = absurd (cc)

implies : (a b : Bool) → (a ≡ true → b ≡ true) → (not a || b) ≡ true
implies true b f = f refl
implies false b f = refl

-- If `o` is `None`, or `f` returns `None` for the value of `o`, then the result for `o` is `None`.
at_none : {A B : Type 0} (o : Option A) (f : A → Option B) → ((x : A) → o ≡ Some x → f x ≡ None) → option_map_or f o None ≡ None
at_none None f each = refl
at_none (Some x) f each = each x refl

-- Lemmas on the greatest bound.

pub bounds_most : (bounds : List Bound) (k : ℕ) (bound : Bound) → slice_get bounds k ≡ Some bound → bound.frames ≤ greatest_bound bounds
bounds_most [] k bound there = let none : k < 0 = slice_get_within [] k bound there in absurd (omega arith)
bounds_most (first ∷ bounds) zero bound there = let same : first.frames ≡ bound.frames = ap (λ (o : Option Bound). option_map_or (λ (b : Bound). b.frames) o 0) there in omega arith
bounds_most (first ∷ bounds) (suc k) bound there = let before = bounds_most bounds k bound there in omega arith

most_bounds : (bounds : List Bound) (window : ℕ) → 1 ≤ window → ((k : ℕ) (bound : Bound) → slice_get bounds k ≡ Some bound → bound.frames + 1 ≤ window) → greatest_bound bounds + 1 ≤ window
most_bounds [] window some each = some
most_bounds (first ∷ bounds) window some each =
    let here = each 0 first refl in
    let rest = most_bounds bounds window some (λ k bound there. each (suc k) bound there) in
    omega arith

module _ (spec : Parts) (made : IsSpec spec) where
  -- If a specification has no refusal, each condition holds.

  shaped : shape_refusal spec ≡ None → (c : ConfId) → c.0 < length spec.confs → IsShaped spec c
  shaped e c known =
      let tests = if_none (is_empty spec c) _ (twin_refusal_of spec c.0) (below_none (shape_refusal_of spec) (length spec.confs) c.0 e known) in
      record { something_on = tests.0; differs = λ d less. not_shown (is_same spec c d) _ (below_none _ c.0 d.0 tests.1 less) }

  met : (asked : Requirement) → requirement_refusal spec asked ≡ None → (c : ConfId) (v : Env) → c.0 < length spec.confs → IsEnv spec v → in_scope spec v ≡ true → is_unmet spec asked c v ≡ false
  met asked e c v known belongs scope =
      passes_nowhere spec made (is_unmet spec asked c)
      (map_none _ (first_unmet_env spec asked c) (below_none (requirement_refusal_of spec asked) (length spec.confs) c.0 e known)) v belongs scope

  demand_met : demand_refusal spec ≡ None → (c : ConfId) (v : Env) → c.0 < length spec.confs → IsEnv spec v → in_scope spec v ≡ true → (k : ℕ) (demand : Demand) → slice_get spec.demands k ≡ Some demand
      → applies_from demand c ≡ true → applies_in demand v ≡ true → is_met spec demand (choose spec c v) ≡ true
  demand_met e c v known belongs scope k demand there asks speaks =
      let none = below_none (demand_refusal_at spec c.0) (length spec.demands) k (below_none (demand_refusal_in spec) (length spec.confs) c.0 e known)
      (slice_get_within spec.demands k demand there) in
      let here : demand_refusal_of spec c.0 k demand ≡ None = rw there at none in
      let missed = passes_nowhere spec made (misses spec demand c) (map_none _ (first_missed_env spec demand c) here) v belongs scope in
      not-false (is_met spec demand (choose spec c v)) (and_false (applies_from demand c && applies_in demand v) _ missed (and_true (applies_from demand c) (applies_in demand v) asks speaks))

  served : (i j : ConfId) (o : Option ℕ) → bound_in spec.bounds i.0 j.0 ≡ o → option_map_or (λ (t : ℕ). nat_le (least spec i j) t) o false ≡ true → IsServed spec i j
  served i j None given test = absurd (cc)
  served i j (Some t) given test = record { frames = t; given = given; serves = at_most (least spec i j) t test }

  asked_true : (i j : ConfId) → (i.0 ≢ j.0) ⊎ (1 ≤ further spec.policy spec.changes) → (not (i.0 == j.0) || can_return spec) ≡ true
  asked_true i j (inl away) = by_bool (i.0 == j.0) (λ t. absurd (away (equal i.0 j.0 t))) (λ f. rw (f) refl)
  asked_true i j (inr some) = rw (below_test 0 (further spec.policy spec.changes) (omega arith)) (or_last (not (i.0 == j.0)))
    where
      or_last : (b : Bool) → (b || true) ≡ true
      or_last true = refl
      or_last false = refl

  bounded : bound_refusal spec ≡ None → (i j : ConfId) → i.0 < length spec.confs → IsTarget spec i j → (i.0 ≢ j.0) ⊎ (1 ≤ further spec.policy spec.changes) → IsServed spec i j
  bounded e i j known target asked =
      let inside : j.0 < length spec.confs = subst (λ (k : ConfId). k.0 < length spec.confs) target.chosen (choose_inside spec made i target.seen known) in
      let free = not_shown (lacks_bound spec i j.0) _ (below_none _ (length spec.confs) j.0 (below_none (bound_refusal_of spec) (length spec.confs) i.0 e known) inside) in
      let given = not-false (is_bounded spec i j) (and_false (is_bound_asked spec i j.0) _ free (and_true _ _ (target_test spec made i j target) (asked_true i j asked))) in
      served i j (bound_in spec.bounds i.0 j.0) refl given

  invariant_none : invariant_refusal spec ≡ None → (k : ℕ) (inv : Invariant) → slice_get spec.invariants k ≡ Some inv → invariant_refusal_of spec k inv ≡ None
  invariant_none e k inv there =
      let here = below_none (invariant_refusal_at spec) (length spec.invariants) k e (slice_get_within spec.invariants k inv there) in
      rw (there) at here

  precondition_none : precondition_refusal spec ≡ None → (k : ℕ) (pre : Precondition) → slice_get spec.preconditions k ≡ Some pre → precondition_refusal_of spec k pre ≡ None
  precondition_none e k pre there =
      let here = below_none (precondition_refusal_at spec) (length spec.preconditions) k e (slice_get_within spec.preconditions k pre there) in
      rw (there) at here

  kept : (inv : Invariant) (i : ConfId) → i.0 < length spec.confs → holds_from spec inv i ≡ true → IsKept spec inv i
  kept inv i known test =
      let reached = and_right (holds_leaving spec inv (place_of spec i inv.app.0)) (holds_reached spec inv i) test in
      record {
        leaving = and_left (holds_leaving spec inv (place_of spec i inv.app.0)) (holds_reached spec inv i) test;
        reaching = λ j target.
            (let inside : j.0 < length spec.confs = subst (λ (k : ConfId). k.0 < length spec.confs) target.chosen (choose_inside spec made i target.seen known) in
            implied (is_target spec i j.0) _ (all_each (holds_on_way spec inv i) (length spec.confs) j.0 reached inside) (target_test spec made i j target));
      }

  pub accepted : first_refusal spec ≡ None → Accepts spec
  accepted e =
      let form = none_left (form_refusal spec) _ e in
      let later = none_right (form_refusal spec) (option_or (choice_refusal spec) (option_or (time_refusal spec) (option_or (range_refusal spec) (demand_refusal spec)))) e in
      let choice = none_left (choice_refusal spec) _ later in
      let last = none_right (choice_refusal spec) (option_or (time_refusal spec) (option_or (range_refusal spec) (demand_refusal spec))) later in
      let time = none_left (time_refusal spec) _ last in
      let last_2 = none_right (time_refusal spec) (option_or (range_refusal spec) (demand_refusal spec)) last in
      let range = none_left (range_refusal spec) _ last_2 in
      let demand = none_right (range_refusal spec) (demand_refusal spec) last_2 in
      let need = none_left (need_refusal spec) _ form in
      let form_2 = none_right (need_refusal spec) (option_or (state_refusal spec) (option_or (shape_refusal spec) (load_refusal spec))) form in
      let state = none_left (state_refusal spec) _ form_2 in
      let form_3 = none_right (state_refusal spec) (option_or (shape_refusal spec) (load_refusal spec)) form_2 in
      let shape = none_left (shape_refusal spec) _ form_3 in
      let load = none_right (shape_refusal spec) (load_refusal spec) form_3 in
      let rule = none_left (requirement_refusal spec requirement.HasRule) _ choice in
      let choice_2 = none_right (requirement_refusal spec requirement.HasRule) (option_or (requirement_refusal spec requirement.CanRun) (option_or (requirement_refusal spec requirement.Stays) (start_refusal spec))) choice in
      let run = none_left (requirement_refusal spec requirement.CanRun) _ choice_2 in
      let choice_3 = none_right (requirement_refusal spec requirement.CanRun) (option_or (requirement_refusal spec requirement.Stays) (start_refusal spec)) choice_2 in
      let stay = none_left (requirement_refusal spec requirement.Stays) _ choice_3 in
      let start = none_right (requirement_refusal spec requirement.Stays) (start_refusal spec) choice_3 in
      let bound = none_left (bound_refusal spec) _ time in
      let window = none_right (bound_refusal spec) (window_refusal spec) time in
      let invariant = none_left (invariant_refusal spec) _ range in
      let precondition = none_right (invariant_refusal spec) (precondition_refusal spec) range in
      record {
        needs_on = λ c a known there. not_shown (lacks_need spec c a) _ (below_none _ (length spec.apps) a (below_none (need_refusal_in spec) (length spec.confs) c.0 need known) there);
        few_states = not_below MAX_ENVIRONMENTS (states spec) (not_shown _ _ state);
        shaped = shaped shape;
        carried = λ c p known there. not_shown (is_overloaded spec c p) _ (below_none _ (length spec.procs) p (below_none (load_refusal_in spec) (length spec.confs) c.0 load known) there);
        ruled = λ c v known belongs scope. not-false (has_rule spec c v) (met requirement.HasRule rule c v known belongs scope);
        runs = λ c v known belongs scope. not-false (is_runnable spec (choose spec c v) v) (met requirement.CanRun run c v known belongs scope);
        stays = λ c v known belongs scope. same_conf (choose spec (choose spec c v) v) (choose spec c v)
            (equal _ _ (not-false ((choose spec (choose spec c v) v).0 == (choose spec c v).0) (met requirement.Stays stay c v known belongs scope)));
        starts = same_conf (choose spec spec.start (opening_env spec)) spec.start
            (equal _ _ (not-false ((choose spec spec.start (opening_env spec)).0 == spec.start.0) (not_shown (leaves_start spec) _ start)));
        bounded = bounded bound;
        windowed = λ k given there. (let most = bounds_most spec.bounds k given there in let wide = not_below spec.window (greatest_bound spec.bounds + 1) (not_shown _ _ window) in omega arith);
        kept = λ k inv there i known speaks. kept inv i known
            (not-false (holds_from spec inv i) (and_false (has_source inv.from i) _ (not_shown (breaks_from spec inv i) _ (below_none _ (length spec.confs) i.0 (invariant_none invariant k inv there) known)) speaks));
        entered = λ k pre there. not-false (holds_entering spec pre (place_of spec pre.conf pre.app.0))
            (not_shown (breaks_entering spec pre) _ (precondition_none precondition k pre there));
        demanded = demand_met demand;
      }

  -- If each condition holds, a specification has no refusal.

  module _ (accepts : Accepts spec) where
    no_need : need_refusal spec ≡ None
    no_need = none_below (need_refusal_in spec) (length spec.confs) (λ c known.
        none_below _ (length spec.apps) (λ a there. none_shown (lacks_need spec (conf_id c) a) _ (accepts.needs_on (conf_id c) a known there)))

    no_state : state_refusal spec ≡ None
    no_state = none_shown _ _ (not_below_test MAX_ENVIRONMENTS (states spec) accepts.few_states)

    no_shape : shape_refusal spec ≡ None
    no_shape = none_below (shape_refusal_of spec) (length spec.confs) (λ c known.
        none_if (is_empty spec (conf_id c)) _ (twin_refusal_of spec c) (accepts.shaped (conf_id c) known).something_on
        (none_below _ c (λ d less. none_shown (is_same spec (conf_id c) (conf_id d)) _ ((accepts.shaped (conf_id c) known).differs (conf_id d) less))))

    no_load : load_refusal spec ≡ None
    no_load = none_below (load_refusal_in spec) (length spec.confs) (λ c known.
        none_below _ (length spec.procs) (λ p there. none_shown (is_overloaded spec (conf_id c) p) _ (accepts.carried (conf_id c) p known there)))

    all_met : (asked : Requirement) (c : ConfId) (v : Env) → c.0 < length spec.confs → IsEnv spec v → in_scope spec v ≡ true → is_unmet spec asked c v ≡ false
    all_met requirement.HasRule c v known belongs scope = not_from_true (has_rule spec c v) (accepts.ruled c v known belongs scope)
    all_met requirement.CanRun c v known belongs scope = not_from_true (is_runnable spec (choose spec c v) v) (accepts.runs c v known belongs scope)
    all_met requirement.Stays c v known belongs scope = not_from_true _ (equal_test _ _ (ap (λ (k : ConfId). k.0) (accepts.stays c v known belongs scope)))

    no_requirement : (asked : Requirement) → requirement_refusal spec asked ≡ None
    no_requirement asked = none_below (requirement_refusal_of spec asked) (length spec.confs) (λ c known.
        none_map _ (first_unmet_env spec asked (conf_id c)) (sym (first_is_least spec made (is_unmet spec asked (conf_id c)) None
        (λ v belongs scope. all_met asked (conf_id c) v known belongs scope))))

    no_start : start_refusal spec ≡ None
    no_start = none_shown (leaves_start spec) _ (not_from_true _ (equal_test _ _ (ap (λ (k : ConfId). k.0) accepts.starts)))

    way_open : (i j : ConfId) → (not (i.0 == j.0) || can_return spec) ≡ true → (i.0 ≢ j.0) ⊎ (1 ≤ further spec.policy spec.changes)
    way_open i j test = elim (or_cases (not (i.0 == j.0)) (can_return spec) test) [
      | inl away ↦ inl (λ same. true_false (i.0 == j.0) (equal_test i.0 j.0 same) (not-true (i.0 == j.0) away))
      | inr returns ↦ inr (below 0 (further spec.policy spec.changes) returns)
    ]

    bound_serves : (i j : ConfId) → IsServed spec i j → is_bounded spec i j ≡ true
    bound_serves i j given = rw (given.given) (at_most_test (least spec i j) given.frames given.serves)

    no_bound : bound_refusal spec ≡ None
    no_bound = none_below (bound_refusal_of spec) (length spec.confs) (λ i known.
        none_below _ (length spec.confs) (λ j there.
        none_shown (lacks_bound spec (conf_id i) j) _ (both_false (is_bound_asked spec (conf_id i) j) _ (λ wanted.
        let target = and_left (is_target spec (conf_id i) j) _ wanted in
        let asked = and_right (is_target spec (conf_id i) j) _ wanted in
        not_from_true (is_bounded spec (conf_id i) (conf_id j)) (bound_serves (conf_id i) (conf_id j)
        (accepts.bounded (conf_id i) (conf_id j) known (target_tested spec made (conf_id i) (conf_id j) target) (way_open (conf_id i) (conf_id j) asked)))))))

    no_window : window_refusal spec ≡ None
    no_window = none_shown (has_short_window spec) _ (not_below_test spec.window (greatest_bound spec.bounds + 1)
        (most_bounds spec.bounds spec.window made.window_least accepts.windowed))

    each_held : (inv : Invariant) (i : ConfId) → IsKept spec inv i → holds_from spec inv i ≡ true
    each_held inv i is = and_true (holds_leaving spec inv (place_of spec i inv.app.0)) _ is.leaving
        (each_all (holds_on_way spec inv i) (length spec.confs) (λ j there.
        implies (is_target spec i j) _ (λ target. is.reaching (conf_id j) (target_tested spec made i (conf_id j) target))))

    no_invariant : invariant_refusal spec ≡ None
    no_invariant = none_below (invariant_refusal_at spec) (length spec.invariants) (λ k inside.
        at_none (slice_get spec.invariants k) (invariant_refusal_of spec k) (λ inv there.
        none_below _ (length spec.confs) (λ i known.
        none_shown (breaks_from spec inv (conf_id i)) _ (both_false (has_source inv.from (conf_id i)) _ (λ speaks.
        not_from_true (holds_from spec inv (conf_id i)) (each_held inv (conf_id i) (accepts.kept k inv there (conf_id i) known speaks)))))))

    no_precondition : precondition_refusal spec ≡ None
    no_precondition = none_below (precondition_refusal_at spec) (length spec.preconditions) (λ k inside.
        at_none (slice_get spec.preconditions k) (precondition_refusal_of spec k) (λ pre there.
        none_shown (breaks_entering spec pre) _ (not_from_true _ (accepts.entered k pre there))))

    no_demand : demand_refusal spec ≡ None
    no_demand = none_below (demand_refusal_in spec) (length spec.confs) (λ c known.
        none_below (demand_refusal_at spec c) (length spec.demands) (λ k inside.
        at_none (slice_get spec.demands k) (demand_refusal_of spec c k) (λ demand there.
        none_map _ (first_missed_env spec demand (conf_id c)) (sym (first_is_least spec made (misses spec demand (conf_id c)) None (λ v belongs scope.
        both_false (applies_from demand (conf_id c) && applies_in demand v) _ (λ both.
        not_from_true (is_met spec demand (choose spec (conf_id c) v)) (accepts.demanded (conf_id c) v known belongs scope k demand there
        (and_left (applies_from demand (conf_id c)) _ both) (and_right (applies_from demand (conf_id c)) _ both)))))))))

    pub unrefused : first_refusal spec ≡ None
    unrefused = none_both (form_refusal spec) _
        (none_both (need_refusal spec) _ no_need (none_both (state_refusal spec) _ no_state (none_both (shape_refusal spec) _ no_shape no_load)))
        (none_both (choice_refusal spec) _
        (none_both (requirement_refusal spec requirement.HasRule) _ (no_requirement requirement.HasRule) (none_both (requirement_refusal spec requirement.CanRun) _ (no_requirement requirement.CanRun)
        (none_both (requirement_refusal spec requirement.Stays) _ (no_requirement requirement.Stays) no_start)))
        (none_both (time_refusal spec) _ (none_both (bound_refusal spec) _ no_bound no_window)
        (none_both (range_refusal spec) _ (none_both (invariant_refusal spec) _ no_invariant no_precondition) no_demand)))

pub accepts_iff_unrefused : AcceptsIffUnrefused
accepts_iff_unrefused spec made = record { accepted = accepted spec made; unrefused = unrefused spec made }
