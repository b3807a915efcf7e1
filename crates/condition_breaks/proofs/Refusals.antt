-- The refusal of a specification equals the refusal for the first place in the list of the condition that the refusal
-- names.
use Rattle.std.proofs.Common.{ℕ, ◌≡◌, ◌∙◌, Bool, true, false, ap, length, refl, sym}
use mathlib.Core.Logic.{inl, inr}
use Rattle.std.specs.Prelude.{Option, Some, None, option_map, slice_get}
use Rattle.std.specs.Option.{option_map_or, option_or}
use Rattle.scram_types.specs.Lookups.{conf_id}
use Rattle.scram_types.specs.Searches.{first_below}
use Rattle.scram_types.specs.Specification.{Parts}
use Rattle.scram_types.proofs.Options.{same_some, some_either, some_none}
use Rattle.scram_types.proofs.Searches.{found_below}
use Rattle.coverage_check.specs.Acceptance.{choice_refusal, first_refusal, form_refusal, range_refusal, time_refusal}
use Rattle.coverage_check.specs.Choosing.{first_unmet_env, leaves_start, number_of_requirement, requirement_refusal, requirement_refusal_of, start_refusal}
use Rattle.coverage_check.specs.Demands.{demand_refusal, demand_refusal_at, demand_refusal_in, demand_refusal_of, first_missed_env}
use Rattle.coverage_check.specs.Form.{has_too_many_states, is_empty, is_overloaded, is_same, lacks_need, load_refusal, load_refusal_in, need_refusal, need_refusal_in, shape_refusal, shape_refusal_of, state_refusal}
use Rattle.coverage_check.specs.Holding.{breaks_entering, breaks_from, invariant_refusal, invariant_refusal_at, invariant_refusal_of, precondition_refusal, precondition_refusal_at, precondition_refusal_of}
use Rattle.coverage_check.specs.Search.{shown_if}
use Rattle.coverage_check.specs.Timing.{bound_refusal, bound_refusal_of, has_short_window, lacks_bound, window_refusal}
use Rattle.coverage_check.specs.declared.choosing.Requirement.{Requirement}
use Rattle.coverage_check.specs.declared.choosing.Requirement.TheVariants as requirement
use Rattle.coverage_check.specs.declared.shown.Shown.{Shown}
use Rattle.coverage_check.proofs.Showing.{shown_where}
use Rattle.condition_breaks.specs.Laws.{RefusalIsFirst, refusal_of_condition}
use Rattle.condition_breaks.proofs.FirstShown.{first_is}

-- Lemmas on the refusals of a condition, each of which names the condition.
IsOf : ℕ → Option Shown → Type 0
IsOf n o = (shown : Shown) → o ≡ Some shown → shown.condition ≡ n

of_if : (n : ℕ) (b : Bool) (x : Shown) → x.condition ≡ n → IsOf n (shown_if b x)
unfolding IsOf
of_if n b x here shown e = let is = shown_where b x shown e in ap (λ (s : Shown). s.condition) is.1 ∙ here

of_below : (n : ℕ) (answer : ℕ → Option Shown) (count : ℕ) → ((k : ℕ) → IsOf n (answer k)) → IsOf n (first_below answer count)
unfolding IsOf
of_below n answer count each shown e = let found = found_below answer count shown e in each found.0 shown found.2

of_mapped : {A : Type 0} (n : ℕ) (f : A → Shown) (o : Option A) → ((x : A) → (f x).condition ≡ n) → IsOf n (option_map f o)
unfolding IsOf
of_mapped n f None each shown e = some_none shown (sym e)
of_mapped n f (Some x) each shown e = ap (λ (s : Shown). s.condition) (sym (same_some (f x) shown e)) ∙ each x

of_option : {A : Type 0} (n : ℕ) (f : A → Option Shown) (o : Option A) → ((x : A) → IsOf n (f x)) → IsOf n (option_map_or f o None)
unfolding IsOf
of_option n f None each shown e = some_none shown (sym e)
of_option n f (Some x) each shown e = each x shown e

module _ (spec : Parts) where
  need_of : IsOf 1 (need_refusal spec)
  need_of = of_below 1 (need_refusal_in spec) (length spec.confs) (λ c. of_below 1 _ (length spec.apps) (λ a. of_if 1 (lacks_need spec (conf_id c) a) _ refl))

  state_of : IsOf 2 (state_refusal spec)
  state_of = of_if 2 (has_too_many_states spec) _ refl

  shape_of : (c : ℕ) (empty : Bool) → is_empty spec (conf_id c) ≡ empty → IsOf 3 (shape_refusal_of spec c)
  unfolding IsOf
  shape_of c true is shown e = ap (λ (s : Shown). s.condition) (sym (same_some _ shown (rw (is) at e)))
  shape_of c false is shown e = of_below 3 (λ d. shown_if (is_same spec (conf_id c) (conf_id d)) _) c (λ d. of_if 3 (is_same spec (conf_id c) (conf_id d)) _ refl) shown (rw (is) at e)

  shapes_of : IsOf 3 (shape_refusal spec)
  shapes_of = of_below 3 (shape_refusal_of spec) (length spec.confs) (λ c. shape_of c (is_empty spec (conf_id c)) refl)

  load_of : IsOf 4 (load_refusal spec)
  load_of = of_below 4 (load_refusal_in spec) (length spec.confs) (λ c. of_below 4 _ (length spec.procs) (λ p. of_if 4 (is_overloaded spec (conf_id c) p) _ refl))

  unmet_of : (asked : Requirement) → IsOf (number_of_requirement asked) (requirement_refusal spec asked)
  unmet_of asked =
      of_below (number_of_requirement asked) (requirement_refusal_of spec asked) (length spec.confs) (λ c.
      of_mapped (number_of_requirement asked) _ (first_unmet_env spec asked (conf_id c)) (λ v. refl))

  start_of : IsOf 8 (start_refusal spec)
  start_of = of_if 8 (leaves_start spec) _ refl

  bound_of : IsOf 9 (bound_refusal spec)
  bound_of = of_below 9 (bound_refusal_of spec) (length spec.confs) (λ i. of_below 9 _ (length spec.confs) (λ j. of_if 9 (lacks_bound spec (conf_id i) j) _ refl))

  window_of : IsOf 10 (window_refusal spec)
  window_of = of_if 10 (has_short_window spec) _ refl

  invariant_of : IsOf 11 (invariant_refusal spec)
  invariant_of =
      of_below 11 (invariant_refusal_at spec) (length spec.invariants) (λ k.
      of_option 11 (invariant_refusal_of spec k) (slice_get spec.invariants k) (λ inv.
      of_below 11 _ (length spec.confs) (λ i. of_if 11 (breaks_from spec inv (conf_id i)) _ refl)))

  precondition_of : IsOf 12 (precondition_refusal spec)
  precondition_of =
      of_below 12 (precondition_refusal_at spec) (length spec.preconditions) (λ k.
      of_option 12 (precondition_refusal_of spec k) (slice_get spec.preconditions k) (λ pre. of_if 12 (breaks_entering spec pre) _ refl))

  demand_of : IsOf 13 (demand_refusal spec)
  demand_of =
      of_below 13 (demand_refusal_in spec) (length spec.confs) (λ c.
      of_below 13 (demand_refusal_at spec c) (length spec.demands) (λ k.
      of_option 13 (demand_refusal_of spec c k) (slice_get spec.demands k) (λ demand.
      of_mapped 13 _ (first_missed_env spec demand (conf_id c)) (λ v. refl))))

  -- The refusal of a specification is the refusal of the condition that the refusal names.
  module _ (shown : Shown) where
    abbrev pub OwnRefusal : Type 0
    OwnRefusal = refusal_of_condition spec shown.condition ≡ Some shown

    own : (n : ℕ) (o : Option Shown) → IsOf n o → refusal_of_condition spec n ≡ o → o ≡ Some shown → OwnRefusal
    unfolding IsOf
    own n o of by e = ap (refusal_of_condition spec) (of shown e) ∙ by ∙ e

    form_own : form_refusal spec ≡ Some shown → OwnRefusal
    form_own e = elim (some_either (need_refusal spec) _ shown e) [
      | inl here ↦ own 1 (need_refusal spec) need_of refl here
      | inr later ↦ elim (some_either (state_refusal spec) (option_or (shape_refusal spec) (load_refusal spec)) shown later) [
        | inl here ↦ own 2 (state_refusal spec) state_of refl here
        | inr last ↦ elim (some_either (shape_refusal spec) (load_refusal spec) shown last) [
          | inl here ↦ own 3 (shape_refusal spec) shapes_of refl here
          | inr load ↦ own 4 (load_refusal spec) load_of refl load
        ]
      ]
    ]

    choice_own : choice_refusal spec ≡ Some shown → OwnRefusal
    choice_own e = elim (some_either (requirement_refusal spec requirement.HasRule) _ shown e) [
      | inl here ↦ own 5 (requirement_refusal spec requirement.HasRule) (unmet_of requirement.HasRule) refl here
      | inr later ↦ elim (some_either (requirement_refusal spec requirement.CanRun) (option_or (requirement_refusal spec requirement.Stays) (start_refusal spec)) shown later) [
        | inl here ↦ own 6 (requirement_refusal spec requirement.CanRun) (unmet_of requirement.CanRun) refl here
        | inr last ↦ elim (some_either (requirement_refusal spec requirement.Stays) (start_refusal spec) shown last) [
          | inl here ↦ own 7 (requirement_refusal spec requirement.Stays) (unmet_of requirement.Stays) refl here
          | inr start ↦ own 8 (start_refusal spec) start_of refl start
        ]
      ]
    ]

    time_own : time_refusal spec ≡ Some shown → OwnRefusal
    time_own e = elim (some_either (bound_refusal spec) (window_refusal spec) shown e) [
      | inl here ↦ own 9 (bound_refusal spec) bound_of refl here
      | inr last ↦ own 10 (window_refusal spec) window_of refl last
    ]

    range_own : range_refusal spec ≡ Some shown → OwnRefusal
    range_own e = elim (some_either (invariant_refusal spec) (precondition_refusal spec) shown e) [
      | inl here ↦ own 11 (invariant_refusal spec) invariant_of refl here
      | inr last ↦ own 12 (precondition_refusal spec) precondition_of refl last
    ]

    pub refused_own : first_refusal spec ≡ Some shown → OwnRefusal
    refused_own e = elim (some_either (form_refusal spec) _ shown e) [
      | inl here ↦ form_own here
      | inr later ↦ elim (some_either (choice_refusal spec) (option_or (time_refusal spec) (option_or (range_refusal spec) (demand_refusal spec))) shown later) [
        | inl here ↦ choice_own here
        | inr last ↦ elim (some_either (time_refusal spec) (option_or (range_refusal spec) (demand_refusal spec)) shown last) [
          | inl here ↦ time_own here
          | inr rest ↦ elim (some_either (range_refusal spec) (demand_refusal spec) shown rest) [
            | inl ranges ↦ range_own ranges
            | inr demand ↦ own 13 (demand_refusal spec) demand_of refl demand
          ]
        ]
      ]
    ]

pub refusal_is_first : RefusalIsFirst
refusal_is_first spec shown made e = first_is spec made shown.condition ∙ refused_own spec shown e
