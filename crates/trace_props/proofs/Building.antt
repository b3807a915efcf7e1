-- The build of an accepted specification satisfies `IsBuilt`.
use Rattle.std.proofs.Common.{◌≡◌, ℕ, ◌<◌, ◌≤◌, true, refl, arith, ◌⊎◌, ap, sym, length}
use mathlib.Core.Logic.{inl, inr}
use Rattle.std.specs.Prelude.{Option, Some, None, slice_get, option_and_then}
use Rattle.scram_types.specs.declared.ids.ConfId.{ConfId}
use Rattle.scram_types.specs.declared.rows.Env.{Env}
use Rattle.scram_types.specs.declared.specification.Conf.{Conf}
use Rattle.scram_types.specs.declared.specification.Place.{Place}
use Rattle.scram_types.specs.Specification.{IsSpec, Parts}
use Rattle.scram_types.proofs.Booleans.{true_false}
use Rattle.scram_types.proofs.Naturals.{equal_test, low_or_high}
use Rattle.scram_types.specs.Lookups.{is_on, place_of, conf_id}
use Rattle.scram_types.proofs.Searches.{each_all}
use Rattle.choice_table.specs.Choices.{is_runnable, places_of}
use Rattle.choice_table.specs.Environments.{is_up_in}
use Rattle.choice_table.specs.Laws.{RunsWherePlacesAreUp}
use Rattle.dep_order.specs.Timetables.{IsInTime, halt_offset}
use Rattle.coverage_check.specs.Acceptance.{Accepts}
use Rattle.coverage_check.specs.Form.{is_same, is_same_place}
use Rattle.trace_props.proofs.CourseRows.{IsBuilt}
use Rattle.trace_props.proofs.Products.{build_of, plan_of}
use Rattle.trace_props.proofs.Accepting.{app_known, conf_known, is_there, placed, some_on}

same_self : (o : Option Place) → is_same_place o o ≡ true
same_self None = refl
same_self (Some p) = rw (equal_test p.mode.0 p.mode.0 refl, equal_test p.proc.0 p.proc.0 refl) refl

none_there : (o : Option Place) → ((p : Place) → o ≡ Some p → ⊥) → o ≡ None
none_there None h = refl
none_there (Some p) h = absurd (h p refl)

-- If two configurations have the same places for all applications, then the test of their equality returns `true`.
same_places : (spec : Parts) → IsSpec spec → (i j : ConfId) → ((a : ℕ) → a < length spec.apps → place_of spec i a ≡ place_of spec j a) → is_same spec i j ≡ true
same_places spec sound i j same = each_all (λ a. is_same_place (place_of spec i a) (place_of spec j a)) 8 (λ a below. at a (low_or_high a (length spec.apps)))
  where
    past : (c : ConfId) (a : ℕ) → length spec.apps ≤ a → place_of spec c a ≡ None
    past c a high = none_there (place_of spec c a) (λ p e. let known = app_known spec sound c a p e in omega arith)

    at : (a : ℕ) → (a < length spec.apps) ⊎ (length spec.apps ≤ a) → is_same_place (place_of spec i a) (place_of spec j a) ≡ true
    at a (inl low) = rw (same a low) (same_self (place_of spec j a))
    at a (inr high) = rw (past i a high, past j a high) refl

trichotomy : (i j : ℕ) → (i ≡ j) ⊎ (i < j) ⊎ (j < i)
trichotomy i j = grind arith

placed_there : (o : Option (Option Place)) (p : Place) → option_and_then (λ (place : Option Place). place) o ≡ Some p → o ≡ Some (Some p)
placed_there None p h = cc
placed_there (Some place) p h = ap Some h

places_are : (spec : Parts) (c : ConfId) (conf : Conf) → slice_get spec.confs c.0 ≡ Some conf → places_of spec c ≡ conf.places
places_are spec c conf h = rw h refl

pub built_of : (spec : Parts) → IsSpec spec → Accepts spec → ((c : ConfId) → IsInTime spec c) → RunsWherePlacesAreUp → IsBuilt (plan_of spec) (build_of spec)
built_of spec sound accepts timed runs_up = record {
  placed_in = λ c a p e. conf_known spec (conf_id c) a p e;
  first_halts = λ c known. first_halts c known;
  inits = λ c a p below e. ((timed (conf_id c)).init_least a (on c a p e), (timed (conf_id c)).initialises a (on c a p e));
  differ = λ i j known aimed same. differ i j known aimed same;
  needs_up = λ c a p v below e runs. needs_up c a p v e runs;
}
  where
    on : (c a : ℕ) (p : Place) → place_of spec (conf_id c) a ≡ Some p → is_on spec (conf_id c) a ≡ true
    on c a p e = rw e refl

    first_halts : (c : ℕ) → c < length spec.confs → (a : ℕ) × (p : Place) × (a < length spec.apps) × (place_of spec (conf_id c) a ≡ Some p) × (halt_offset spec (conf_id c) a ≡ 0)
    first_halts c known =
        let some = some_on spec accepts c known in
        let at = placed spec (conf_id c) some.0 some.2 in
        let first = (timed (conf_id c)).halt_first some.0 (app_known spec sound (conf_id c) some.0 at.0 at.1) some.2 in
        let there = placed spec (conf_id c) first.0 first.2 in
        (first.0, there.0, first.1, there.1, first.3)

    differ : (i j : ℕ) → i < length spec.confs → j < length spec.confs → ((a : ℕ) → a < length spec.apps → place_of spec (conf_id i) a ≡ place_of spec (conf_id j) a) → i ≡ j
    differ i j known aimed same = elim (trichotomy i j) [
      | inl e ↦ e
      | inr k ↦ elim k [
        | inl less ↦ absurd (true_false _ (same_places spec sound (conf_id j) (conf_id i) (λ a below. sym (same a below))) ((accepts.shaped (conf_id j) aimed).differs (conf_id i) less))
        | inr less ↦ absurd (true_false _ (same_places spec sound (conf_id i) (conf_id j) same) ((accepts.shaped (conf_id i) known).differs (conf_id j) less))
      ]
    ]

    needs_up : (c a : ℕ) (p : Place) (v : Env) → place_of spec (conf_id c) a ≡ Some p → is_runnable spec (conf_id c) v ≡ true → is_up_in v p.proc.0 ≡ true
    needs_up c a p v e runs =
        let t = is_there spec (conf_id c) a p e in
        let at : slice_get (places_of spec (conf_id c)) a ≡ Some (Some p) = rw (places_are spec (conf_id c) t.conf t.there) (placed_there (slice_get t.conf.places a) p t.place) in
        (runs_up spec (conf_id c) v).0 runs a p at
