-- Lemmas that the invariants and preconditions of an accepted specification satisfy `HoldsListedRanges` and
-- `HoldsInitialisedRange`.
use Rattle.std.proofs.Common.{◌≡◌, ℕ, ◌<◌, true, refl, arith, ap, List, length}
use mathlib.Core.Logic.{inl, inr}
use Rattle.std.specs.Prelude.{Option, Some, None, ℤ, pos, slice_get, ◌&&◌}
use Rattle.scram_types.specs.declared.ids.ConfId.{ConfId}
use Rattle.scram_types.specs.declared.specification.Invariant as told_invariants
use Rattle.scram_types.specs.declared.specification.Place.{Place}
use Rattle.scram_types.specs.declared.specification.Precondition as told_preconditions
use Rattle.scram_types.specs.Numbers.{word}
use Rattle.scram_types.specs.Specification.{IsSpec, Parts}
use Rattle.scram_types.proofs.Booleans.{and_left, and_right}
use Rattle.scram_types.proofs.Naturals.{equal, equal_test}
use Rattle.scram_types.specs.Lookups.{conf_id, kind_of_app}
use Rattle.choice_table.specs.Choices as choices
use Rattle.choice_table.specs.Choices.{has_source}
use Rattle.kind_table.specs.Bounds.{after_init, during}
use Rattle.coverage_check.specs.Acceptance as acceptance
use Rattle.coverage_check.specs.Acceptance.{Accepts}
use Rattle.coverage_check.specs.Holding.{holds_during, holds_leaving, holds_off, holds_reaching}
use Rattle.trace_props.proofs.Plans as plans
use Rattle.trace_props.proofs.CourseAreas.{Written, Written.DidRun, Written.DidHalt, Written.DidPrepare, Written.DidInit, Written.Zeros, CourseInvariant, CoursePrecondition, HoldsListedRanges, HoldsInitialisedRange, IsListed, SpeaksOfSource, IsPlacedInTarget, IsPlacedInEither}
use Rattle.trace_props.proofs.Accepting.{env_of_test}
use Rattle.trace_props.proofs.Products.{build_of, is_env, halting_number, plan_of}
use Rattle.trace_props.specs.Judging.{lies_in}
use Rattle.trace_props.proofs.Ranging.{area_of, area_test, laws_of, lies_held, range_of}

-- The `CourseInvariant` of an invariant of a specification.
abbrev pub invariant_of : told_invariants.Invariant → CourseInvariant
invariant_of inv = record { source = halting_number inv.from; app = inv.app.0; holds = λ v. lies_in inv.least inv.greatest (word v inv.variable) }

abbrev pub precondition_of : told_preconditions.Precondition → CoursePrecondition
precondition_of pre = record { conf = pre.conf.0; app = pre.app.0; holds = λ v. lies_in pre.least pre.greatest (word v pre.variable) }

-- If the `CourseInvariant` of an invariant is for source `i`, then so is the invariant itself.
source_is : (from : Option ConfId) (i : ℕ) → SpeaksOfSource (halting_number from) i → has_source from (conf_id i) ≡ true
source_is None i h = refl
source_is (Some c) i h = rw h (equal_test i i refl)

pub speaks_in : (from : Option ConfId) (c : ConfId) → has_source from c ≡ true → SpeaksOfSource (halting_number from) c.0
speaks_in None c h = tt
speaks_in (Some k) c h = equal k.0 c.0 h

module _ (spec : Parts) (sound : IsSpec spec) (accepts : Accepts spec) where
  target_of : (i j : ℕ) → plans.IsPlanTarget (plan_of spec) i j → choices.IsTarget spec (conf_id i) (conf_id j)
  target_of i j t = record {
    seen = t.seen;
    belongs = env_of_test spec sound t.seen (and_left (is_env spec t.seen) _ t.scope);
    scope = and_right (is_env spec t.seen) _ t.scope;
    chosen = ap conf_id t.chosen;
  }

  module _ (k : ℕ) (inv : told_invariants.Invariant) (there : slice_get spec.invariants k ≡ Some inv) where
    small : inv.variable < 8
    small = let few = (sound.invariants k inv there).interval.is_variable in omega arith

    -- If an invariant holds the ranges of an act in a mode, then its interval holds the word of each area in these
    -- ranges.
    held_during : (act mode : ℕ) (v : List ℤ) → holds_during spec inv act mode ≡ true → area_test (during (kind_of_app spec inv.app.0) act mode) v ≡ true → lies_in inv.least inv.greatest (word v inv.variable) ≡ true
    held_during act mode v h lies =
        lies_held inv.least inv.greatest _ _ (word v inv.variable) h (area_of (during (kind_of_app spec inv.app.0) act mode) v lies inv.variable small)

    held_off : (v : List ℤ) → holds_off inv ≡ true → area_test (λ i. (pos 0, pos 0)) v ≡ true → lies_in inv.least inv.greatest (word v inv.variable) ≡ true
    held_off v h lies = lies_held inv.least inv.greatest (pos 0) (pos 0) (word v inv.variable) h (area_of (λ i. (pos 0, pos 0)) v lies inv.variable small)

    -- If an invariant holds the ranges in which a place is left or reached, then the invariant holds the ranges of
    -- each act at that place.
    init_held : (p : Place) → holds_leaving spec inv (Some p) ≡ true → holds_during spec inv 4 p.mode.0 ≡ true
    init_held p h = and_left (holds_during spec inv 4 p.mode.0) (holds_during spec inv 1 p.mode.0) (and_left (holds_during spec inv 4 p.mode.0 && holds_during spec inv 1 p.mode.0) _ h)

    run_held : (p : Place) → holds_leaving spec inv (Some p) ≡ true → holds_during spec inv 1 p.mode.0 ≡ true
    run_held p h = and_right (holds_during spec inv 4 p.mode.0) (holds_during spec inv 1 p.mode.0) (and_left (holds_during spec inv 4 p.mode.0 && holds_during spec inv 1 p.mode.0) _ h)

    halt_held : (p : Place) → holds_leaving spec inv (Some p) ≡ true → holds_during spec inv 2 p.mode.0 ≡ true
    halt_held p h = and_right (holds_during spec inv 4 p.mode.0 && holds_during spec inv 1 p.mode.0) (holds_during spec inv 2 p.mode.0) h

    prepare_held : (p : Place) → holds_reaching spec inv (Some p) ≡ true → holds_during spec inv 3 p.mode.0 ≡ true
    prepare_held p h = and_left (holds_during spec inv 3 p.mode.0) _ h

    leaving_held : (o : Option Place) → holds_reaching spec inv o ≡ true → holds_leaving spec inv o ≡ true
    leaving_held None h = h
    leaving_held (Some p) h = and_right (holds_during spec inv 3 p.mode.0) _ h

    module _ (i : ℕ) (known : i < length spec.confs) (speaks : SpeaksOfSource (halting_number inv.from) i) where
      kept : acceptance.IsKept spec inv (conf_id i)
      kept = accepts.kept k inv there (conf_id i) known (source_is inv.from i speaks)

      -- If the application has place `o` in `i` or in a possible target of `i`, then the invariant holds the ranges
      -- in which `o` is left.
      left_at : (o : Option Place) → IsPlacedInEither (plan_of spec) (build_of spec) i inv.app.0 o → holds_leaving spec inv o ≡ true
      left_at o site = elim site [
        | inl here ↦ rw here at kept.leaving
        | inr t ↦ leaving_held o (rw t.2 at (kept.reaching (conf_id t.0) (target_of i t.0 t.1)))
      ]

      reached_at : (o : Option Place) → IsPlacedInTarget (plan_of spec) (build_of spec) i inv.app.0 o → holds_reaching spec inv o ≡ true
      reached_at o t = rw t.2 at (kept.reaching (conf_id t.0) (target_of i t.0 t.1))

      listed : (w : Written) (v : List ℤ) → IsListed (plan_of spec) (build_of spec) i inv.app.0 w → area_test (range_of (kind_of_app spec inv.app.0) w) v ≡ true → lies_in inv.least inv.greatest (word v inv.variable) ≡ true
      listed (DidRun p) v site lies = held_during 1 p.mode.0 v (run_held p (left_at (Some p) site)) lies
      listed (DidHalt p) v site lies = held_during 2 p.mode.0 v (halt_held p (left_at (Some p) site)) lies
      listed (DidPrepare p) v site lies = held_during 3 p.mode.0 v (prepare_held p (reached_at (Some p) site)) lies
      listed (DidInit p) v site lies = held_during 4 p.mode.0 v (init_held p (left_at (Some p) site)) lies
      listed Zeros v site lies = held_off v (left_at None site) lies

    pub kept_of : HoldsListedRanges (plan_of spec) (build_of spec) (laws_of spec) (invariant_of inv)
    kept_of = record {
      app_in = (sound.invariants k inv there).interval.there;
      holds_listed = λ i w v known speaks site lies. listed i known speaks w v site lies;
    }

  module _ (k : ℕ) (pre : told_preconditions.Precondition) (there : slice_get spec.preconditions k ≡ Some pre) where
    narrow : pre.variable < 8
    narrow = let few = (sound.preconditions k pre there).interval.is_variable in omega arith

    pub ready_of : HoldsInitialisedRange (build_of spec) (laws_of spec) (precondition_of pre)
    ready_of = record {
      app_in = (sound.preconditions k pre there).interval.there;
      holds_on = λ p v on lies.
          lies_held pre.least pre.greatest _ _ (word v pre.variable) (rw on at (accepts.entered k pre there)) (area_of (after_init (kind_of_app spec pre.app.0) p.mode.0) v lies pre.variable narrow);
      holds_off = λ v off lies.
          lies_held pre.least pre.greatest (pos 0) (pos 0) (word v pre.variable) (rw off at (accepts.entered k pre there)) (area_of (λ i. (pos 0, pos 0)) v lies pre.variable narrow);
    }
