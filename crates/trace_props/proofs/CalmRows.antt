-- Each calm row of a mission satisfies `IsSettled`. The mode is stable in the row. Since no application is lost in
-- the row, the row runs the configuration of the mode.
use Rattle.std.proofs.Common.{◌≡◌, ℕ, suc, ◌+◌, ◌-◌, ◌<◌, ◌≤◌, Bool, true, false, not, refl, arith, ◌≢◌, ap, sym, ◌∙◌, subst, List, length}
use Rattle.std.specs.Prelude.{Option, Some, None, option_map, slice_get, ◌&&◌, ◌||◌}
use Rattle.std.proofs.lemmas.Option.{same_Some, slice_get_within}
use Rattle.scram_types.specs.declared.rows.Row.{Row}
use Rattle.scram_types.specs.declared.orders.Act.TheVariants as act
use Rattle.scram_types.specs.declared.ids.ConfId.{ConfId}
use Rattle.scram_types.specs.declared.specification.Bound.{Bound}
use Rattle.scram_types.specs.declared.demands.Demand.{Demand}
use Rattle.scram_types.specs.declared.specification.Place.{Place}
use Rattle.scram_types.specs.Scripts.{ScriptParts}
use Rattle.scram_types.specs.Specification.{IsSpec, Parts, bound_in}
use Rattle.scram_types.specs.Lookups.{conf_id, place_of}
use Rattle.scram_types.proofs.Booleans.{and_left, and_right, not_true, true_false}
use Rattle.scram_types.proofs.Items.{all_pass}
use Rattle.scram_types.proofs.Naturals.{equal_test}
use Rattle.scram_types.proofs.Searches.{each_all}
use Rattle.choice_table.specs.Demands.{applies_from, applies_in, is_met, meets}
use Rattle.choice_table.specs.Environments.{in_scope}
use Rattle.fault_script.specs.Assumption.{is_same_env}
use Rattle.fault_script.specs.Environments.{env_at}
use Rattle.coverage_check.specs.Acceptance.{Accepts}
use Rattle.coverage_check.specs.Timing.{greatest_bound}
use Rattle.coverage_check.proofs.Accepting.{bounds_most}
use Rattle.frame_model.specs.Flights.{row_at, rows_of}
use Rattle.frame_model.specs.Runs.{act_at, running}
use Rattle.trace_props.specs.Properties.{IsCalm, is_satisfied, satisfies}
use Rattle.trace_props.specs.Calms.{IsSettled}
use Rattle.trace_props.proofs.Plans.{IsAcceptedPlan}
use Rattle.trace_props.proofs.CourseModes.{CourseMode.Stable}
use Rattle.trace_props.proofs.Courses.{IsCourseFlown, IsCourseWithin, CourseRowUnder, course_mode_at}
use Rattle.trace_props.proofs.CourseRows.{CourseAct.Ran, CourseAct.Lost, course_act_of, course_fits_place, course_is_ran, course_order_in, course_phase, course_running_order}
use Rattle.trace_props.proofs.Tests.{by_test}
use Rattle.trace_props.proofs.Accepting.{bound_each, env_of_test}
use Rattle.trace_props.proofs.Calms.{IsAtRest, IsCalmFrom, calm_rests}
use Rattle.trace_props.proofs.Products.{build_of, course_of, is_env, plan_of, runs_in_row}
use Rattle.trace_props.proofs.SameActs.{committed, row_act, runs_same, shown}
use Rattle.trace_props.proofs.TimesKept.{env_there, not_same, row_count, row_there}

-- No bound is greater than the greatest bound.
most_of : (i j n : ℕ) (bounds : List Bound) → bound_in bounds i j ≡ Some n → n ≤ greatest_bound bounds
most_of i j n bounds given = bound_each (λ frames. frames ≤ greatest_bound bounds) i j n bounds (bounds_most bounds) given

met_if : (speaks asks met : Bool) → (asks ≡ true → speaks ≡ true → met ≡ true) → (not (speaks && asks) || met) ≡ true
met_if true true met h = h refl refl
met_if true false met h = refl
met_if false asks met h = refl

-- If the act of a running order is not lost, then the act fits the order's place.
ran_unlost : (commits : ℕ → Bool) (o : Option Place) → shown (course_act_of commits (course_running_order o)) ≢ act.Lost → course_fits_place o (course_act_of commits (course_running_order o)) ≡ true
ran_unlost commits None whole = refl
ran_unlost commits (Some p) whole =
    by_test (λ x. shown x ≢ act.Lost → course_is_ran p x ≡ true) (commits p.proc.0) (Ran p) Lost
    (λ e h. rw (equal_test p.mode.0 p.mode.0 refl, equal_test p.proc.0 p.proc.0 refl) refl)
    (λ e h. absurd (h refl))
    whole

module _ (spec : Parts) (script : ScriptParts) (sound : IsSpec spec) (t : ℕ) (row : Row) (calm : IsCalm spec (rows_of spec script) t row) where
  inside : t < script.frames
  inside = let low = slice_get_within (rows_of spec script) t row calm.there in let all = row_count spec script in omega arith

  row_is : row_at spec script t ≡ row
  row_is = same_Some (row_at spec script t) row (sym (row_there spec script t inside) ∙ calm.there)

  env_is : (f : ℕ) → t ≤ f + greatest_bound spec.bounds → f ≤ t → env_at spec script f ≡ row.env
  env_is f late early = same_Some (env_at spec script f) row.env (sym (env_there spec script f (omega (arith, inside))) ∙ calm.still f late early)

  calm_from : IsCalmFrom (plan_of spec) (course_of spec script) (t - greatest_bound spec.bounds) (greatest_bound spec.bounds) t
  calm_from = record {
    still = λ f late early. still f (env_is f (omega arith) (omega arith) ∙ sym (env_is (suc f) (omega arith) (omega arith)));
    most = λ i j n given. most_of i j n spec.bounds given;
  }
    where
      still : (f : ℕ) → env_at spec script f ≡ env_at spec script (suc f) → not (is_same_env (env_at spec script f) (env_at spec script (suc f))) ≡ false
      still f same = not_true (not (is_same_env (env_at spec script f) (env_at spec script (suc f)))) (λ h. not_same (env_at spec script f) (env_at spec script (suc f)) h same)

  -- If the mode is stable in row `t`, then its configuration runs in that row.
  runs_resting : (c : ℕ) → course_mode_at (plan_of spec) (course_of spec script) t ≡ Stable c → runs_in_row spec script t c ≡ true
  runs_resting c moded = runs_same spec sound script t c ∙ each_all _ (length spec.apps) (λ a below. fits a below)
    where
      fits : (a : ℕ) → a < length spec.apps → course_fits_place (place_of spec (conf_id c) a) (course_act_of (committed spec script t) (course_order_in (build_of spec) (course_phase (plan_of spec) (course_mode_at (plan_of spec) (course_of spec script) t) t) a)) ≡ true
      fits a below =
          let done : act_at row.acts a ≡ shown (course_act_of (committed spec script t) (course_running_order (place_of spec (conf_id c) a))) =
          sym (ap (λ (r : Row). act_at r.acts a) row_is) ∙ row_act spec script t a (let few = sound.apps_count.few in omega arith)
          ∙ ap (λ m. shown (course_act_of (committed spec script t) (course_order_in (build_of spec) (course_phase (plan_of spec) m t) a))) moded in
          rw moded (ran_unlost (committed spec script t) (place_of spec (conf_id c) a) (λ lost. calm.whole a (done ∙ lost)))

  least_running : (c : ℕ) (o : Option ℕ) → (course_of spec script).running t ≡ o → CourseRowUnder (plan_of spec) (course_of spec script) t (Stable c) → runs_in_row spec script t c ≡ true → o ≡ Some c
  least_running c None e under ran = true_false _ ran (under.none_runs e c)
  least_running c (Some j) e under ran = ap Some (sym (under.only j (under.one_runs j e)).1)

  module _ (accepted : IsAcceptedPlan (plan_of spec)) (within : IsCourseWithin (plan_of spec) (course_of spec script)) (flown : IsCourseFlown (plan_of spec) (course_of spec script)) where
    rests : IsAtRest (plan_of spec) (course_of spec script) t (course_mode_at (plan_of spec) (course_of spec script) t)
    rests = calm_rests (plan_of spec) (course_of spec script) accepted within flown (t - greatest_bound spec.bounds) (greatest_bound spec.bounds) t calm_from
        (let low = inside in omega arith) (let late = calm.late in omega arith)

    pub settled : IsSettled spec row
    settled = record {
      conf = conf_id rests.conf;
      known = rests.known;
      runs = subst (λ (r : Row). running spec r.acts ≡ Some (conf_id rests.conf)) row_is
          (ap (option_map conf_id) (least_running rests.conf ((course_of spec script).running t) refl
          (subst (CourseRowUnder (plan_of spec) (course_of spec script) t) rests.moded (flown t inside)) (runs_resting rests.conf rests.moded)));
      stays = ap conf_id (rw (env_is t (omega arith) (omega arith)) at rests.chosen);
    }

    in_scope_there : (is_env spec row.env && in_scope spec row.env) ≡ true
    in_scope_there = subst (λ v. (is_env spec v && in_scope spec v) ≡ true) (env_is t (omega arith) (omega arith)) (within.scope t (let low = inside in omega arith))

    meets_each : Accepts spec → (k : ℕ) (demand : Demand) → slice_get spec.demands k ≡ Some demand → meets spec settled.conf row.env demand ≡ true
    meets_each accepts k demand there = met_if (applies_in demand row.env) (applies_from demand settled.conf) (is_met spec demand settled.conf)
        (λ asks speaks. subst (λ (c : ConfId). is_met spec demand c ≡ true) settled.stays
        (accepts.demanded settled.conf row.env settled.known (env_of_test spec sound row.env (and_left (is_env spec row.env) _ in_scope_there))
        (and_right (is_env spec row.env) _ in_scope_there) k demand there asks speaks))

    -- In a calm row of a mission the running configuration satisfies the demands.
    pub satisfied : Accepts spec → is_satisfied spec row ≡ true
    satisfied accepts = ap (satisfies spec row.env) settled.runs ∙ all_pass (meets spec settled.conf row.env) spec.demands (meets_each accepts)
