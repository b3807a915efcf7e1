-- The refusal of each condition equals the refusal for the first place in the condition's list.
use Rattle.std.proofs.Common.{ℕ, ◌≡◌, ◌∙◌, ◌==◌, Bool, true, false, not, List, [], ◌∷◌, ap, length, refl}
use Rattle.std.specs.Prelude.{◌&&◌, Option, Some, None, option_map, slice_get, if◌then◌else◌}
use Rattle.std.specs.Option.{option_map_or, option_to_list}
use Rattle.scram_types.specs.declared.rows.Env.{Env}
use Rattle.scram_types.specs.declared.ids.ConfId.{ConfId}
use Rattle.scram_types.specs.declared.demands.Demand.{Demand}
use Rattle.scram_types.specs.declared.specification.Invariant.{Invariant}
use Rattle.scram_types.specs.declared.specification.Precondition.{Precondition}
use Rattle.scram_types.specs.Lookups.{app_id, conf_id, is_on, proc_id}
use Rattle.scram_types.specs.Specification.{IsSpec, Parts}
use Rattle.coverage_check.specs.Choosing.{first_unmet_env, leaves_start, requirement_refusal, requirement_refusal_of, start_refusal}
use Rattle.coverage_check.specs.Demands.{demand_refusal, demand_refusal_at, demand_refusal_in, demand_refusal_of, first_missed_env}
use Rattle.coverage_check.specs.Form.{has_too_many_states, is_empty, is_overloaded, is_same, lacks_need, load_refusal, load_refusal_in, need_refusal, need_refusal_in, shape_refusal, shape_refusal_of, state_refusal, twin_refusal_of}
use Rattle.coverage_check.specs.Holding.{breaks_entering, invariant_refusal, invariant_refusal_at, invariant_refusal_of, precondition_refusal, precondition_refusal_at, precondition_refusal_of}
use Rattle.coverage_check.specs.Search.{shown_if}
use Rattle.coverage_check.specs.Showing.{shown_at}
use Rattle.coverage_check.specs.Timing.{bound_refusal, bound_refusal_of, has_short_window, lacks_bound, least, window_refusal}
use Rattle.coverage_check.specs.declared.choosing.Requirement.{Requirement}
use Rattle.coverage_check.specs.declared.choosing.Requirement.TheVariants as requirement
use Rattle.coverage_check.specs.declared.shown.Shown.{Shown}
use Rattle.coverage_check.specs.declared.shown.Other.TheVariants as other
use Rattle.condition_breaks.specs.declared.breaks.Break.{Break}
use Rattle.condition_breaks.specs.declared.breaks.Break.TheVariants as broken
use Rattle.condition_breaks.specs.Breaks.{bound_break, bound_breaks, bound_breaks_from, breaks, choice_breaks, demand_break, demand_break_of, demand_breaks, demand_breaks_in, invariant_break, invariant_breaks, later_breaks, load_break, load_breaks, load_breaks_in, need_break, need_breaks, need_breaks_in, need_breaks_of, precondition_break, precondition_breaks, shape_break, shape_breaks, start_breaks, state_breaks, unentered_of, unheld, unheld_of, unmet_break, unmet_breaks, window_breaks}
use Rattle.condition_breaks.specs.Form.{first_twin, is_need_off, is_needed}
use Rattle.condition_breaks.specs.Laws.{FirstIsShown, choice_refusal_by, first_shown, later_refusal_by, missed_shown, refusal_of_condition, shown_of}
use Rattle.condition_breaks.specs.Ranges.{all_ways, first_unheld}
use Rattle.condition_breaks.proofs.Firsts.{any_and, any_shown, gathered_shown, listed_shown, mapped_below, mapped_shown, one_shown, same_below}
use Rattle.condition_breaks.proofs.Needed.{needed_off}
use Rattle.condition_breaks.proofs.WayRanges.{unheld_shown}

module _ (spec : Parts) (made : IsSpec spec) where
  need_first_of : (c a : ℕ) → first_shown spec (need_breaks_of spec c a) ≡ shown_if (lacks_need spec (conf_id c) a) (shown_at 1 c (other.App (app_id a)))
  need_first_of c a =
      gathered_shown (shown_of spec) (need_break spec c a) (λ b. shown_if (is_need_off spec (conf_id c) a b) (shown_at 1 c (other.App (app_id a)))) (length spec.apps)
      (λ b less. one_shown (shown_of spec) (is_need_off spec (conf_id c) a b) (broken.NeedOff (conf_id c) (app_id a) (app_id b)))
      ∙ any_shown (is_need_off spec (conf_id c) a) (shown_at 1 c (other.App (app_id a))) (length spec.apps)
      ∙ ap (λ (lacks : Bool). shown_if lacks (shown_at 1 c (other.App (app_id a))))
      (any_and (is_on spec (conf_id c) a) (λ b. is_needed spec a b && not (is_on spec (conf_id c) b)) (length spec.apps)
      ∙ ap (λ (lacks : Bool). is_on spec (conf_id c) a && lacks) (needed_off spec made (conf_id c) a))

  pub need_first : first_shown spec (need_breaks spec) ≡ need_refusal spec
  need_first =
      gathered_shown (shown_of spec) (need_breaks_in spec) (need_refusal_in spec) (length spec.confs) (λ c less.
      gathered_shown (shown_of spec) (need_breaks_of spec c) (λ a. shown_if (lacks_need spec (conf_id c) a) (shown_at 1 c (other.App (app_id a)))) (length spec.apps)
      (λ a there. need_first_of c a))

  pub state_first : first_shown spec (state_breaks spec) ≡ state_refusal spec
  state_first = one_shown (shown_of spec) (has_too_many_states spec) broken.ManyStates

  shape_first_of : (c : ℕ) (empty : Bool)
      → first_shown spec (if empty then broken.NothingOn (conf_id c) ∷ [] else option_to_list (option_map (λ (d : ConfId). broken.SameAgain (conf_id c) d) (first_twin spec c)))
      ≡ (if empty then Some (shown_at 3 c other.Nothing) else twin_refusal_of spec c)
  shape_first_of c true = refl
  shape_first_of c false =
      listed_shown (shown_of spec) (λ (d : ConfId). broken.SameAgain (conf_id c) d) (first_twin spec c)
      ∙ mapped_below (λ (d : ConfId). shown_at 3 c (other.Conf d)) (λ d. shown_if (is_same spec (conf_id c) (conf_id d)) (conf_id d)) c
      ∙ same_below _ (λ d. shown_if (is_same spec (conf_id c) (conf_id d)) (shown_at 3 c (other.Conf (conf_id d)))) c
      (λ d less. mapped_shown (λ (twin : ConfId). shown_at 3 c (other.Conf twin)) (is_same spec (conf_id c) (conf_id d)) (conf_id d))

  pub shape_first : first_shown spec (shape_breaks spec) ≡ shape_refusal spec
  shape_first = gathered_shown (shown_of spec) (shape_break spec) (shape_refusal_of spec) (length spec.confs) (λ c less. shape_first_of c (is_empty spec (conf_id c)))

  pub load_first : first_shown spec (load_breaks spec) ≡ load_refusal spec
  load_first =
      gathered_shown (shown_of spec) (load_breaks_in spec) (load_refusal_in spec) (length spec.confs) (λ c less.
      gathered_shown (shown_of spec) (load_break spec c) (λ p. shown_if (is_overloaded spec (conf_id c) p) (shown_at 4 c (other.Proc (proc_id p)))) (length spec.procs)
      (λ p there. one_shown (shown_of spec) (is_overloaded spec (conf_id c) p) (broken.Overloaded (conf_id c) (proc_id p))))

  pub unmet_first : (asked : Requirement) → first_shown spec (unmet_breaks spec asked) ≡ requirement_refusal spec asked
  unmet_first asked =
      gathered_shown (shown_of spec) (unmet_break spec asked) (requirement_refusal_of spec asked) (length spec.confs) (λ c less.
      listed_shown (shown_of spec) (λ (v : Env). broken.Unmet asked (conf_id c) v) (first_unmet_env spec asked (conf_id c)))

  pub start_first : first_shown spec (start_breaks spec) ≡ start_refusal spec
  start_first = one_shown (shown_of spec) (leaves_start spec) broken.StartLeft

  pub bound_first : first_shown spec (bound_breaks spec) ≡ bound_refusal spec
  bound_first =
      gathered_shown (shown_of spec) (bound_breaks_from spec) (bound_refusal_of spec) (length spec.confs) (λ i less.
      gathered_shown (shown_of spec) (bound_break spec i)
      (λ j. shown_if (lacks_bound spec (conf_id i) j) (shown_at 9 i (other.Least (conf_id j) (least spec (conf_id i) (conf_id j))))) (length spec.confs)
      (λ j there. one_shown (shown_of spec) (lacks_bound spec (conf_id i) j) (broken.BoundLacking (conf_id i) (conf_id j))))

  pub window_first : first_shown spec (window_breaks spec) ≡ window_refusal spec
  window_first = one_shown (shown_of spec) (has_short_window spec) broken.WindowShort

  pub missed_of : (k : ℕ) (pre : Precondition) → slice_get spec.preconditions k ≡ Some pre → missed_shown spec k ≡ shown_at 12 pre.conf.0 (other.Item k)
  missed_of k pre there = rw there refl

  unentered_if : (k : ℕ) (pre : Precondition) (b : Bool) → slice_get spec.preconditions k ≡ Some pre
      → first_shown spec (option_to_list (shown_if b (broken.PreconditionMissed k))) ≡ shown_if b (shown_at 12 pre.conf.0 (other.Item k))
  unentered_if k pre true there = ap Some (missed_of k pre there)
  unentered_if k pre false there = refl

  unentered_first : (k : ℕ) (o : Option Precondition) → slice_get spec.preconditions k ≡ o
      → first_shown spec (option_to_list (option_map_or (unentered_of spec k) o None)) ≡ option_map_or (precondition_refusal_of spec k) o None
  unentered_first k None there = refl
  unentered_first k (Some pre) there = unentered_if k pre (breaks_entering spec pre) there

  pub precondition_first : first_shown spec (precondition_breaks spec) ≡ precondition_refusal spec
  precondition_first =
      gathered_shown (shown_of spec) (precondition_break spec) (precondition_refusal_at spec) (length spec.preconditions) (λ k less.
      unentered_first k (slice_get spec.preconditions k) refl)

  missed_first : (c k : ℕ) (o : Option Demand) → first_shown spec (option_map_or (demand_break_of spec c k) o []) ≡ option_map_or (demand_refusal_of spec c k) o None
  missed_first c k None = refl
  missed_first c k (Some demand) =
      listed_shown (shown_of spec) (λ (v : Env). broken.DemandMissed (conf_id c) k v) (first_missed_env spec demand (conf_id c))

  pub demand_first : first_shown spec (demand_breaks spec) ≡ demand_refusal spec
  demand_first =
      gathered_shown (shown_of spec) (demand_breaks_in spec) (demand_refusal_in spec) (length spec.confs) (λ c less.
      gathered_shown (shown_of spec) (demand_break spec c) (demand_refusal_at spec c) (length spec.demands) (λ k there.
      missed_first c k (slice_get spec.demands k)))

  unheld_first : (k : ℕ) (o : Option Invariant) → first_shown spec (option_to_list (option_map_or (unheld_of spec k) o None)) ≡ option_map_or (invariant_refusal_of spec k) o None
  unheld_first k None = refl
  unheld_first k (Some inv) =
      listed_shown (shown_of spec) (unheld spec k inv) (first_unheld spec inv (all_ways spec)) ∙ unheld_shown spec inv (λ (c : ConfId). shown_at 11 c.0 (other.Item k))

  pub invariant_first : first_shown spec (invariant_breaks spec) ≡ invariant_refusal spec
  invariant_first =
      gathered_shown (shown_of spec) (invariant_break spec) (invariant_refusal_at spec) (length spec.invariants) (λ k less.
      unheld_first k (slice_get spec.invariants k))

  -- For each number, the refusal by the condition of this number equals the refusal for the first place in the
  -- condition's list.

  by_test : (b : Bool) (xs ys : List Break) (o p : Option Shown) → first_shown spec xs ≡ o → first_shown spec ys ≡ p
      → first_shown spec (if b then xs else ys) ≡ (if b then o else p)
  by_test true xs ys o p here later = here
  by_test false xs ys o p here later = later

  later_first : (condition : ℕ) → first_shown spec (later_breaks spec condition) ≡ later_refusal_by spec condition
  later_first condition =
      by_test (condition == 9) _ _ _ _ bound_first
      (by_test (condition == 10) _ _ _ _ window_first
      (by_test (condition == 11) _ _ _ _ invariant_first
      (by_test (condition == 12) _ _ _ _ precondition_first
      (by_test (condition == 13) _ _ _ _ demand_first refl))))

  choice_first : (condition : ℕ) → first_shown spec (choice_breaks spec condition) ≡ choice_refusal_by spec condition
  choice_first condition =
      by_test (condition == 5) _ _ _ _ (unmet_first requirement.HasRule)
      (by_test (condition == 6) _ _ _ _ (unmet_first requirement.CanRun)
      (by_test (condition == 7) _ _ _ _ (unmet_first requirement.Stays)
      (by_test (condition == 8) _ _ _ _ start_first (later_first condition))))

  pub first_is : (condition : ℕ) → first_shown spec (breaks spec condition) ≡ refusal_of_condition spec condition
  first_is condition =
      by_test (condition == 1) _ _ _ _ need_first
      (by_test (condition == 2) _ _ _ _ state_first
      (by_test (condition == 3) _ _ _ _ shape_first
      (by_test (condition == 4) _ _ _ _ load_first (choice_first condition))))

pub first_is_shown : FirstIsShown
first_is_shown = first_is
