-- Lemmas on environments by number, on possible targets, and on the targets and environments in covers.
use Rattle.std.proofs.Common.{◌≡◌, ℕ, ◌+◌, ◌<◌, Bool, true, false, arith, ap, sym, ◌∙◌, List, get_or, length, set, subst}
use mathlib.Core.Logic.{inl, inr}
use Rattle.std.specs.Int.{bit_at}
use Rattle.scram_types.specs.Bits.{has_bit}
use Rattle.std.specs.Prelude.{Option, ◌&&◌, ◌==◌, Some, None, option_and_then, option_map, slice_get}
use Rattle.std.specs.Option.{option_map_or}
use Rattle.scram_types.proofs.Equality.{same_conf}
use Rattle.std.proofs.lemmas.Option.{slice_get-get_or}
use Rattle.dep_order.proofs.Assigned.{get_set_other, get_set_same}
use Rattle.scram_types.proofs.Naturals.{same_or_not, below_test, equal_test, equal}
use Rattle.scram_types.specs.declared.ids.ConfId.{ConfId}
use Rattle.scram_types.specs.declared.rows.Env.{Env}
use Rattle.scram_types.specs.declared.demands.Demand.{Demand}
use Rattle.scram_types.specs.Specification.{IsSpec, Parts}
use Rattle.scram_types.specs.Searches.{first_below}
use Rattle.scram_types.specs.Lookups.{conf_id}
use Rattle.scram_types.proofs.BitSets.{bit_cases, bit_of, bits_are}
use Rattle.scram_types.proofs.Booleans.{and_false, and_left, and_right, and_true, by_bool, same_test, true_false, both_false}
use Rattle.scram_types.proofs.Items.{some_item}
use Rattle.scram_types.proofs.Searches.{any_below_found, any_below_is, below_none, first_found, none_below}
use Rattle.scram_types.proofs.Options.{same_some}
use Rattle.choice_table.specs.Environments.{IsEnv, in_scope}
use Rattle.choice_table.specs.Choices.{IsTarget, choose}
use Rattle.choice_table.specs.Numbering.{environments, is_number_in_scope, number_of, numbered}
use Rattle.choice_table.proofs.Inverses.{env_of-number_of, is_env, number_below, number_of-numbered}
use Rattle.cube_cover.specs.declared.answers.Cover.{Cover}
use Rattle.cube_cover.specs.Covers.{IsCover, IsLeastEnv}
use Rattle.cube_cover.specs.Demands.{AreMisses, misses}
use Rattle.coverage_check.specs.declared.shown.Other.TheVariants as other
use Rattle.coverage_check.specs.declared.choosing.Requirement.{Requirement}
use Rattle.coverage_check.specs.declared.choosing.Requirement.TheVariants as requirement
use Rattle.coverage_check.specs.Choosing.{first_unmet_env, is_unmet, unmet_of_cover}
use Rattle.coverage_check.specs.Search.{first_passing_env, passing_env_at}
use Rattle.coverage_check.specs.Demands.{demand_refusal_at, demand_refusal_of, miss_shown}
use Rattle.coverage_check.specs.Showing.{shown_in}
use Rattle.coverage_check.specs.Timing.{is_chosen_in, is_target, targets}
use Rattle.coverage_check.specs.TargetSets.{AreTargets, HasCovers}
use Rattle.coverage_check.proofs.Showing.{is_shown, none_shown, not_shown}

module _ (spec : Parts) (made : IsSpec spec) where
  -- Each environment has a number below the number of environments, and is the environment of that number.
  pub number_inside : (v : Env) → IsEnv spec v → number_of spec v < environments spec
  number_inside v belongs = number_below spec made.factors made.factors_count v belongs

  pub numbered_number : (v : Env) → IsEnv spec v → numbered spec (number_of spec v) ≡ v
  numbered_number v belongs =
      let inside = below_test (number_of spec v) (environments spec) (number_inside v belongs) in
      let back = env_of-number_of spec made.factors made.factors_count v belongs in
      same_some (numbered spec (number_of spec v)) v (rw (inside) at back)

  pub belongs_numbered : (n : ℕ) → n < environments spec → IsEnv spec (numbered spec n)
  belongs_numbered n h = is_env spec made.factors made.factors_count n h

  -- Configuration `j` is a possible target of `i` if and only if the test of possible targets passes.
  pub target_test : (i j : ConfId) → IsTarget spec i j → is_target spec i j.0 ≡ true
  target_test i j target =
      let same = numbered_number target.seen target.belongs in
      any_below_is (is_chosen_in spec i j.0) (environments spec) (number_of spec target.seen)
      (and_true (is_number_in_scope spec (number_of spec target.seen)) _
      (ap (in_scope spec) same ∙ target.scope)
      (equal_test _ j.0 (ap (λ (v : Env). (choose spec i v).0) same ∙ ap (λ (c : ConfId). c.0) target.chosen)))
      (number_inside target.seen target.belongs)

  pub target_tested : (i j : ConfId) → is_target spec i j.0 ≡ true → IsTarget spec i j
  target_tested i j test =
      let found = any_below_found (is_chosen_in spec i j.0) (environments spec) test in
      record {
        seen = numbered spec found.0;
        belongs = belongs_numbered found.0 found.1;
        scope = and_left (is_number_in_scope spec found.0) _ found.2;
        chosen = same_conf (choose spec i (numbered spec found.0)) j (equal _ j.0 (and_right (is_number_in_scope spec found.0) _ found.2));
      }

  -- The targets of a cover are the possible targets of its configuration.
  pub cover_targets : (i : ConfId) (cover : Cover) → IsCover spec i cover → (j : ℕ) → j < length spec.confs → has_bit cover.targets j ≡ is_target spec i j
  cover_targets i cover is j inside = same_test (has_bit cover.targets j) (is_target spec i j)
      (λ bit. target_test i (conf_id j) (is.only (conf_id j) bit))
      (λ test. is.all (conf_id j) (target_tested i (conf_id j) test))

  bit_told : (set j : ℕ) (b : Bool) → has_bit set j ≡ b → bit_at set j ≡ bit_of b
  bit_told set j true e = equal (bit_at set j) 1 e
  bit_told set j false e = elim (bit_cases set j) [ inl none ↦ none | inr one ↦ true_false (bit_at set j == 1) (equal_test (bit_at set j) 1 one) e ]

  pub cover_set : (i : ConfId) (cover : Cover) → IsCover spec i cover → cover.targets ≡ targets spec i
  cover_set i cover is = bits_are cover.targets (is_target spec i) (length spec.confs) is.few
      (λ j inside. bit_told cover.targets j (is_target spec i j) (cover_targets i cover is j inside))

  pub cover_members : (i : ConfId) (cover : Cover) → IsCover spec i cover → AreTargets spec i cover.targets
  cover_members i cover is = record { only = λ j inside bit. is.only j bit; all = is.all; few = is.few }

  -- The environment in scope with the smallest number that passes a test is the first one that a search by number
  -- finds.

  pub first_is_least : (test : Env → Bool) (o : Option Env) → IsLeastEnv spec test o → o ≡ first_passing_env spec test
  first_is_least test None none = sym (none_below (passing_env_at spec test) (environments spec) (λ n inside.
      none_shown (is_number_in_scope spec n && test (numbered spec n)) (numbered spec n)
      (both_false (is_number_in_scope spec n) (test (numbered spec n)) (λ scope. none (numbered spec n) (belongs_numbered n inside) scope))))
  first_is_least test (Some v) least =
      let same = numbered_number v least.belongs in
      let inside = number_inside v least.belongs in
      let before : first_below (passing_env_at spec test) (number_of spec v) ≡ None = none_below (passing_env_at spec test) (number_of spec v) (λ n less.
      none_shown (is_number_in_scope spec n && test (numbered spec n)) (numbered spec n)
      (both_false (is_number_in_scope spec n) (test (numbered spec n)) (λ scope. by_bool (test (numbered spec n))
      (λ passes. absurd (let low : n < environments spec = omega arith in
      let first = least.least (numbered spec n) (belongs_numbered n low) scope passes in
      let here = number_of-numbered spec made.factors made.factors_count n low in omega arith))
      (λ fails. fails)))) in
      let passes = and_true (is_number_in_scope spec (number_of spec v)) _ (ap (in_scope spec) same ∙ least.scope) (ap test same ∙ least.passes) in
      let here : passing_env_at spec test (number_of spec v) ≡ Some v = is_shown _ (numbered spec (number_of spec v)) passes ∙ ap Some same in
      sym (first_found (passing_env_at spec test) (environments spec) (number_of spec v) v before here inside)

  pub cover_unmet : (asked : Requirement) (c : ConfId) (cover : Cover) → IsCover spec c cover → unmet_of_cover cover asked ≡ first_unmet_env spec asked c
  cover_unmet requirement.HasRule c cover is = first_is_least (is_unmet spec requirement.HasRule c) cover.unfit is.unfit
  cover_unmet requirement.CanRun c cover is = first_is_least (is_unmet spec requirement.CanRun c) cover.not_runnable is.not_runnable
  cover_unmet requirement.Stays c cover is = first_is_least (is_unmet spec requirement.Stays c) cover.unsettled is.unsettled

  -- If a search finds no environment that passes a test, no environment in scope passes it.
  pub passes_nowhere : (test : Env → Bool) → first_passing_env spec test ≡ None → (v : Env) → IsEnv spec v → in_scope spec v ≡ true → test v ≡ false
  passes_nowhere test none v belongs scope =
      let same = numbered_number v belongs in
      let here = not_shown (is_number_in_scope spec (number_of spec v) && test (numbered spec (number_of spec v))) _
      (below_none (passing_env_at spec test) (environments spec) (number_of spec v) none (number_inside v belongs)) in
      ap test (sym same) ∙ and_false (is_number_in_scope spec (number_of spec v)) _ here (ap (in_scope spec) same ∙ scope)

  -- If `found` contains for each demand the first environment in which the demand is missed, `miss_shown` returns for
  -- demand `k` the refusal that `demand_refusal_at` defines.
  pub miss_is : (c : ℕ) (found : List (Option Env)) → AreMisses spec (conf_id c) found → (k : ℕ) → k < length spec.demands → miss_shown found c k ≡ demand_refusal_at spec c k
  miss_is c found are k low =
      some_item spec.demands k low (λ demand there.
      some_item found k (let all = are.all in omega arith) (λ least at.
      ap (option_and_then (λ (o : Option Env). option_map (λ (v : Env). shown_in 13 c v (other.Demand k)) o)) at
      ∙ ap (option_map (λ (v : Env). shown_in 13 c v (other.Demand k))) (first_is_least (misses spec demand (conf_id c)) least (are.least k demand least there at))
      ∙ sym (ap (λ (o : Option Demand). option_map_or (demand_refusal_of spec c k) o None) there)))

-- Lemmas on the list of covers, which is filled one configuration at a time.

pub covered : (spec : Parts) (covers : List Cover) (i x : ℕ) (d : Cover) → x ≡ i → HasCovers spec covers → i < length spec.confs → i < length covers → IsCover spec (conf_id i) (get_or covers x d)
covered spec covers i x d same all known low = subst (λ (n : ℕ). IsCover spec (conf_id i) (get_or covers n d)) (sym same) (all i (get_or covers i d) known (slice_get-get_or covers i d low))

pub covers_more : (spec : Parts) (covers : List Cover) (i x : ℕ) (new : Cover) → x ≡ i → i < length covers → IsCover spec (conf_id i) new
    → ((k : ℕ) (cover : Cover) → k < i → slice_get covers k ≡ Some cover → IsCover spec (conf_id k) cover)
    → (k : ℕ) (cover : Cover) → k < i + 1 → slice_get (set covers x new) k ≡ Some cover → IsCover spec (conf_id k) cover
covers_more spec covers i x new same low here before k cover less there = elim (same_or_not k i) [
  | inl e ↦
      let at : slice_get covers_set k ≡ Some new = ap (slice_get covers_set) (e ∙ sym same) ∙ get_set_same covers x new (get_or covers x new) (slice_get-get_or covers x new (subst (λ (n : ℕ). n < length covers) (sym same) low)) in
      subst (λ (n : ℕ). IsCover spec (conf_id n) cover) (sym e) (subst (IsCover spec (conf_id i)) (same_some new cover (sym at ∙ there)) here)
  | inr apart ↦ before k cover (omega arith) (sym (get_set_other covers x k new (λ e. apart (omega arith))) ∙ there)
]
  where
    covers_set : List Cover
    covers_set = set covers x new
