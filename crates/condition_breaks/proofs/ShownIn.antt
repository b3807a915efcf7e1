-- If a place in the list of a condition contains an environment, the environment belongs to the specification.
use Rattle.std.proofs.Common.{ℕ, ◌≡◌, ◌==◌, Bool, [], subst, sym, length}
use Rattle.std.specs.Prelude.{Option, Some, None, ◌&&◌, slice_get}
use Rattle.std.specs.Option.{option_map_or, option_to_list}
use Rattle.scram_types.specs.declared.rows.Env.{Env}
use Rattle.scram_types.specs.declared.ids.ConfId.{ConfId}
use Rattle.scram_types.specs.declared.demands.Demand.{Demand}
use Rattle.scram_types.specs.declared.specification.Invariant.{Invariant}
use Rattle.scram_types.specs.declared.specification.Precondition.{Precondition}
use Rattle.scram_types.specs.Lookups.{app_id, conf_id, proc_id}
use Rattle.scram_types.specs.Specification.{Each, IsSpec, Parts}
use Rattle.scram_types.proofs.Searches.{found_below}
use Rattle.choice_table.specs.Environments.{IsEnv}
use Rattle.choice_table.specs.Numbering.{environments, is_number_in_scope, numbered}
use Rattle.coverage_check.specs.Choosing.{first_unmet_env, is_unmet, leaves_start}
use Rattle.coverage_check.specs.Demands.{first_missed_env}
use Rattle.coverage_check.specs.Form.{has_too_many_states, is_empty, is_overloaded}
use Rattle.coverage_check.specs.Holding.{breaks_entering}
use Rattle.coverage_check.specs.Search.{first_passing_env, passing_env_at}
use Rattle.coverage_check.specs.Timing.{has_short_window, lacks_bound}
use Rattle.coverage_check.specs.declared.choosing.Requirement.{Requirement}
use Rattle.coverage_check.specs.declared.choosing.Requirement.TheVariants as requirement
use Rattle.coverage_check.proofs.Reaching.{belongs_numbered}
use Rattle.coverage_check.proofs.Showing.{shown_where}
use Rattle.cube_cover.specs.Demands.{misses}
use Rattle.condition_breaks.specs.declared.breaks.Break.TheVariants as broken
use Rattle.condition_breaks.specs.Breaks.{bound_break, bound_breaks, bound_breaks_from, breaks, choice_breaks, demand_break, demand_break_of, demand_breaks, demand_breaks_in, invariant_break, invariant_breaks, later_breaks, load_break, load_breaks, load_breaks_in, need_break, need_breaks, need_breaks_in, need_breaks_of, precondition_break, precondition_breaks, shape_break, shape_breaks, unentered_of, unheld, unheld_of, unmet_break, unmet_breaks}
use Rattle.condition_breaks.specs.Form.{first_twin, is_need_off}
use Rattle.condition_breaks.specs.Ranges.{all_ways, first_unheld}
use Rattle.condition_breaks.specs.Shown.{AnyEnvIsOf}
use Rattle.condition_breaks.proofs.EachItem.{each_gathered, each_if, each_mapped, each_none, each_one, each_one_if, each_shown_if}

module _ (spec : Parts) (made : IsSpec spec) where
  -- The first environment that passes a test belongs to the specification.
  passing_belongs : (test : Env → Bool) (v : Env) → first_passing_env spec test ≡ Some v → IsEnv spec v
  passing_belongs test v e =
      let n = found_below (passing_env_at spec test) (environments spec) v e in
      let is = shown_where (is_number_in_scope spec n.0 && test (numbered spec n.0)) (numbered spec n.0) v n.2 in
      subst (IsEnv spec) (sym is.1) (belongs_numbered spec made n.0 n.1)

  need_shown : Each (AnyEnvIsOf spec) (need_breaks spec)
  need_shown = each_gathered (AnyEnvIsOf spec) (need_breaks_in spec) (length spec.confs) (λ c inside.
      each_gathered (AnyEnvIsOf spec) (need_breaks_of spec c) (length spec.apps) (λ a there.
      each_gathered (AnyEnvIsOf spec) (need_break spec c a) (length spec.apps) (λ b known.
      each_one_if (AnyEnvIsOf spec) (is_need_off spec (conf_id c) a b) (broken.NeedOff (conf_id c) (app_id a) (app_id b)) tt)))

  shape_shown : Each (AnyEnvIsOf spec) (shape_breaks spec)
  shape_shown = each_gathered (AnyEnvIsOf spec) (shape_break spec) (length spec.confs) (λ c inside.
      each_if (AnyEnvIsOf spec) (is_empty spec (conf_id c)) _ _ (each_one (AnyEnvIsOf spec) (broken.NothingOn (conf_id c)) tt)
      (each_mapped (AnyEnvIsOf spec) (λ (d : ConfId). broken.SameAgain (conf_id c) d) (first_twin spec c) (λ d e. tt)))

  load_shown : Each (AnyEnvIsOf spec) (load_breaks spec)
  load_shown = each_gathered (AnyEnvIsOf spec) (load_breaks_in spec) (length spec.confs) (λ c inside.
      each_gathered (AnyEnvIsOf spec) (load_break spec c) (length spec.procs) (λ p there.
      each_one_if (AnyEnvIsOf spec) (is_overloaded spec (conf_id c) p) (broken.Overloaded (conf_id c) (proc_id p)) tt))

  unmet_shown : (asked : Requirement) → Each (AnyEnvIsOf spec) (unmet_breaks spec asked)
  unmet_shown asked = each_gathered (AnyEnvIsOf spec) (unmet_break spec asked) (length spec.confs) (λ c inside.
      each_mapped (AnyEnvIsOf spec) (λ (v : Env). broken.Unmet asked (conf_id c) v) (first_unmet_env spec asked (conf_id c))
      (λ v e. passing_belongs (is_unmet spec asked (conf_id c)) v e))

  bound_shown : Each (AnyEnvIsOf spec) (bound_breaks spec)
  bound_shown = each_gathered (AnyEnvIsOf spec) (bound_breaks_from spec) (length spec.confs) (λ i inside.
      each_gathered (AnyEnvIsOf spec) (bound_break spec i) (length spec.confs) (λ j there.
      each_one_if (AnyEnvIsOf spec) (lacks_bound spec (conf_id i) j) (broken.BoundLacking (conf_id i) (conf_id j)) tt))

  invariant_shown_of : (k : ℕ) (o : Option Invariant) → Each (AnyEnvIsOf spec) (option_to_list (option_map_or (unheld_of spec k) o None))
  invariant_shown_of k None = each_none (AnyEnvIsOf spec)
  invariant_shown_of k (Some inv) = each_mapped (AnyEnvIsOf spec) (unheld spec k inv) (first_unheld spec inv (all_ways spec)) (λ taken e. tt)

  invariant_shown : Each (AnyEnvIsOf spec) (invariant_breaks spec)
  invariant_shown = each_gathered (AnyEnvIsOf spec) (invariant_break spec) (length spec.invariants) (λ k inside.
      invariant_shown_of k (slice_get spec.invariants k))

  precondition_shown_of : (k : ℕ) (o : Option Precondition) → Each (AnyEnvIsOf spec) (option_to_list (option_map_or (unentered_of spec k) o None))
  precondition_shown_of k None = each_none (AnyEnvIsOf spec)
  precondition_shown_of k (Some pre) = each_shown_if (AnyEnvIsOf spec) (breaks_entering spec pre) (broken.PreconditionMissed k) tt

  precondition_shown : Each (AnyEnvIsOf spec) (precondition_breaks spec)
  precondition_shown = each_gathered (AnyEnvIsOf spec) (precondition_break spec) (length spec.preconditions) (λ k inside.
      precondition_shown_of k (slice_get spec.preconditions k))

  demand_shown_of : (c k : ℕ) (o : Option Demand) → Each (AnyEnvIsOf spec) (option_map_or (demand_break_of spec c k) o [])
  demand_shown_of c k None = each_none (AnyEnvIsOf spec)
  demand_shown_of c k (Some demand) =
      each_mapped (AnyEnvIsOf spec) (λ (v : Env). broken.DemandMissed (conf_id c) k v) (first_missed_env spec demand (conf_id c))
      (λ v e. passing_belongs (misses spec demand (conf_id c)) v e)

  demand_shown : Each (AnyEnvIsOf spec) (demand_breaks spec)
  demand_shown = each_gathered (AnyEnvIsOf spec) (demand_breaks_in spec) (length spec.confs) (λ c inside.
      each_gathered (AnyEnvIsOf spec) (demand_break spec c) (length spec.demands) (λ k there. demand_shown_of c k (slice_get spec.demands k)))

  later_shown : (condition : ℕ) → Each (AnyEnvIsOf spec) (later_breaks spec condition)
  later_shown condition =
      each_if (AnyEnvIsOf spec) (condition == 9) _ _ bound_shown
      (each_if (AnyEnvIsOf spec) (condition == 10) _ _ (each_one_if (AnyEnvIsOf spec) (has_short_window spec) broken.WindowShort tt)
      (each_if (AnyEnvIsOf spec) (condition == 11) _ _ invariant_shown
      (each_if (AnyEnvIsOf spec) (condition == 12) _ _ precondition_shown
      (each_if (AnyEnvIsOf spec) (condition == 13) _ _ demand_shown (each_none (AnyEnvIsOf spec))))))

  choice_shown : (condition : ℕ) → Each (AnyEnvIsOf spec) (choice_breaks spec condition)
  choice_shown condition =
      each_if (AnyEnvIsOf spec) (condition == 5) _ _ (unmet_shown requirement.HasRule)
      (each_if (AnyEnvIsOf spec) (condition == 6) _ _ (unmet_shown requirement.CanRun)
      (each_if (AnyEnvIsOf spec) (condition == 7) _ _ (unmet_shown requirement.Stays)
      (each_if (AnyEnvIsOf spec) (condition == 8) _ _ (each_one_if (AnyEnvIsOf spec) (leaves_start spec) broken.StartLeft tt) (later_shown condition))))

  pub all_shown : (condition : ℕ) → Each (AnyEnvIsOf spec) (breaks spec condition)
  all_shown condition =
      each_if (AnyEnvIsOf spec) (condition == 1) _ _ need_shown
      (each_if (AnyEnvIsOf spec) (condition == 2) _ _ (each_one_if (AnyEnvIsOf spec) (has_too_many_states spec) broken.ManyStates tt)
      (each_if (AnyEnvIsOf spec) (condition == 3) _ _ shape_shown
      (each_if (AnyEnvIsOf spec) (condition == 4) _ _ load_shown (choice_shown condition))))
