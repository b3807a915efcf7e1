-- A filled-in specification is accepted.
use Rattle.std.proofs.Common.{◌≡◌, ◌∙◌, ℕ, zero, suc, ◌+◌, ◌<◌, ◌≤◌, Bool, true, false, not, refl, arith, ap, sym, subst, List, [], ◌∷◌, length, map}
use Rattle.std.specs.Prelude.{⊤, Option, Some, None, is_some, max, nat_le, nat_lt, slice_get, ◌==◌, ◌||◌, if◌then◌else◌}
use Rattle.std.specs.Option.{option_map_or}
use Rattle.std.specs.List.{AllByRecursion}
use Rattle.std.proofs.Math.Nat.{le_refl}
use Rattle.scram_types.specs.declared.ids.ConfId.{ConfId}
use Rattle.scram_types.specs.declared.specification.Bound.{Bound}
use Rattle.scram_types.specs.declared.specification.Invariant.{Invariant}
use Rattle.scram_types.specs.declared.specification.Place.{Place}
use Rattle.scram_types.specs.declared.specification.Precondition.{Precondition}
use Rattle.scram_types.specs.Specification.{Parts, bound_in}
use Rattle.scram_types.specs.Searches.{all_below}
use Rattle.scram_types.specs.Lookups.{conf_id, place_of}
use Rattle.scram_types.proofs.Booleans.{and_left, and_right, by_bool, or_left, or_right, both_false}
use Rattle.scram_types.proofs.Equality.{same_conf}
use Rattle.scram_types.proofs.Naturals.{at_most_test, equal, not_below_test}
use Rattle.scram_types.proofs.Options.{none_both, none_left, none_right}
use Rattle.scram_types.proofs.Searches.{below_none, none_below}
use Rattle.coverage_check.proofs.Accepting.{accepts_iff_unrefused}
use Rattle.coverage_check.proofs.Showing.{none_shown, not_shown}
use Rattle.coverage_check.specs.Acceptance.{choice_refusal, form_refusal, range_refusal}
use Rattle.coverage_check.specs.Demands.{demand_refusal}
use Rattle.coverage_check.specs.Form.{is_overloaded, load_below, load_refusal, need_refusal, shape_refusal, state_refusal}
use Rattle.coverage_check.specs.Holding.{breaks_entering, breaks_from, holds_entering, holds_from, holds_leaving, holds_on_way, holds_reached, holds_reaching, invariant_refusal, invariant_refusal_of, precondition_refusal, precondition_refusal_of}
use Rattle.coverage_check.specs.Timing.{bound_refusal, greatest_bound, is_bound_asked, is_bounded, is_target, lacks_bound, least, window_refusal}
use Rattle.fill_form.specs.Filling.{filled, filled_bounds, missing_bounds, raised}
use Rattle.fill_form.specs.Laws.{FilledIsAccepted}
use Rattle.fill_form.specs.Refusing.{length_refusal}
use Rattle.fill_form.proofs.Apart.{all_append, all_of_each, gives, gives_append, is_for}
use Rattle.fill_form.proofs.Filled.{all_raised, filled_is_spec, filled_is_writable, gives_raised}
use Rattle.fill_form.proofs.Missing.{all_missing, gives_missing}

-- If two tests agree on every number, `all_below` has the same value for both tests.

same_all : (one two : ℕ → Bool) (n : ℕ) → ((k : ℕ) → one k ≡ two k) → all_below one n ≡ all_below two n
same_all one two zero same = refl
same_all one two (suc n) same = rw (same_all one two n same, same n) refl

-- Lemmas that the filled-in specification satisfies A9: each required bound is given and sufficient.

first_serves : (b : Bool) (frames needed : ℕ) (o : Option ℕ) → (b ≡ true → needed ≤ frames) → (is_some o ≡ true → option_map_or (λ (t : ℕ). nat_le needed t) o false ≡ true)
    → is_some (if b then Some frames else o) ≡ true → option_map_or (λ (t : ℕ). nat_le needed t) (if b then Some frames else o) false ≡ true
first_serves true frames needed o here rest some = at_most_test needed frames (here refl)
first_serves false frames needed o here rest some = rest some

long_enough : (t : Bool) (frames needed : ℕ) → t ≡ true → needed ≤ (if t then max frames needed else frames)
long_enough true frames needed is = omega arith
long_enough false frames needed is = absurd (cc)

module _ (spec : Parts) where
  -- If a bound is required for the pair of a bound `x`, then `x` is sufficient.
  abbrev IsLongEnough : Bound → Type 0
  IsLongEnough x = is_bound_asked spec x.from x.to.0 ≡ true → least spec x.from x.to ≤ x.frames

  filled_serves : AllByRecursion IsLongEnough (filled_bounds spec)
  filled_serves = all_append IsLongEnough (map (raised spec) spec.bounds) (missing_bounds spec)
      (all_raised spec (λ (x : Bound). ⊤) IsLongEnough spec.bounds (λ x any asked. long_enough (is_bound_asked spec x.from x.to.0) x.frames (least spec x.from x.to) asked)
      (all_of_each (λ (x : Bound). ⊤) spec.bounds (λ k x there. tt)))
      (all_missing spec IsLongEnough (λ i j left right missing asked. le_refl (least spec (conf_id i) (conf_id j))))

  -- If each bound of a list is sufficient, the first bound of the list for a pair that requires a bound is
  -- sufficient.
  first_for : (xs : List Bound) (i j : ConfId) → is_bound_asked spec i j.0 ≡ true → AllByRecursion IsLongEnough xs → gives xs i.0 j.0 ≡ true
      → option_map_or (λ (t : ℕ). nat_le (least spec i j) t) (bound_in xs i.0 j.0) false ≡ true
  first_for [] i j asked all some = absurd (cc)
  first_for (x ∷ xs) i j asked all some = first_serves (is_for i.0 j.0 x) x.frames (least spec i j) (bound_in xs i.0 j.0)
      (λ t.
      let from : x.from ≡ i = same_conf x.from i (equal x.from.0 i.0 (and_left (x.from.0 == i.0) (x.to.0 == j.0) t)) in
      let to : x.to ≡ j = same_conf x.to j (equal x.to.0 j.0 (and_right (x.from.0 == i.0) (x.to.0 == j.0) t)) in
      let here : is_bound_asked spec x.from x.to.0 ≡ true =
      subst (λ (c : ConfId). is_bound_asked spec c x.to.0 ≡ true) (sym from) (subst (λ (d : ConfId). is_bound_asked spec i d.0 ≡ true) (sym to) asked) in
      subst (λ (c : ConfId). least spec c j ≤ x.frames) from (subst (λ (d : ConfId). least spec x.from d ≤ x.frames) to (all.0 here)))
      (first_for xs i j asked all.1) some

  -- The filled-in specification has a bound for each pair for which a bound is required.
  filled_gives : (i j : ℕ) → i < length spec.confs → j < length spec.confs → is_bound_asked spec (conf_id i) j ≡ true → gives (filled_bounds spec) i j ≡ true
  filled_gives i j left right asked = gives_append (map (raised spec) spec.bounds) (missing_bounds spec) i j ∙ by_bool (gives spec.bounds i j)
      (λ t. or_left (gives (map (raised spec) spec.bounds) i j) (gives (missing_bounds spec) i j) (gives_raised spec spec.bounds i j ∙ t))
      (λ f. or_right (gives (map (raised spec) spec.bounds) i j) (gives (missing_bounds spec) i j) (gives_missing spec i j left right (rw (asked, f) refl)))

  bounds_serve : bound_refusal (filled spec) ≡ None
  bounds_serve = none_below _ (length spec.confs) (λ i left. none_below _ (length spec.confs) (λ j right.
      none_shown (lacks_bound (filled spec) (conf_id i) j) _
      (both_false (is_bound_asked spec (conf_id i) j) (not (is_bounded (filled spec) (conf_id i) (conf_id j)))
      (λ asked. ap not (first_for (filled_bounds spec) (conf_id i) (conf_id j) asked filled_serves (filled_gives i j left right asked))))))

  -- Lemmas that the filled-in specification satisfies A10: the window is longer than the greatest bound.

  wide_enough : (window needed : ℕ) → nat_lt (max window needed) needed ≡ false
  wide_enough window needed = not_below_test (max window needed) needed (omega arith)

  window_serves : window_refusal (filled spec) ≡ None
  window_serves = none_shown _ _ (wide_enough spec.window (greatest_bound (filled_bounds spec) + 1))

  -- Lemmas on the refusals that do not depend on the bounds and the window.

  same_load : (c : ConfId) (p n : ℕ) → load_below (filled spec) c p n ≡ load_below spec c p n
  same_load c p zero = refl
  same_load c p (suc n) = rw (same_load c p n) refl

  same_overload : (c : ConfId) (p : ℕ) → is_overloaded (filled spec) c p ≡ is_overloaded spec c p
  same_overload c p = rw (same_load c p (length spec.apps)) refl

  loads_kept : load_refusal spec ≡ None → load_refusal (filled spec) ≡ None
  loads_kept none = none_below _ (length spec.confs) (λ c left. none_below _ (length spec.procs) (λ p right.
      none_shown (is_overloaded (filled spec) (conf_id c) p) _
      (same_overload (conf_id c) p ∙ not_shown (is_overloaded spec (conf_id c) p) _ (below_none _ (length spec.procs) p (below_none _ (length spec.confs) c none left) right))))

  form_kept : form_refusal spec ≡ None → form_refusal (filled spec) ≡ None
  form_kept none =
      let few = none_right (need_refusal spec) _ none in
      let shaped = none_right (state_refusal spec) _ few in
      none_both _ _ (none_left (need_refusal spec) _ none)
      (none_both _ _ (none_left (state_refusal spec) _ few)
      (none_both _ _ (none_left (shape_refusal spec) _ shaped) (loads_kept (none_right (shape_refusal spec) _ shaped))))

  choice_kept : choice_refusal spec ≡ None → choice_refusal (filled spec) ≡ None
  choice_kept none = none

  demand_kept : demand_refusal spec ≡ None → demand_refusal (filled spec) ≡ None
  demand_kept none = none

  same_leaving : (inv : Invariant) (place : Option Place) → holds_leaving (filled spec) inv place ≡ holds_leaving spec inv place
  same_leaving inv None = refl
  same_leaving inv (Some place) = refl

  same_reaching : (inv : Invariant) (place : Option Place) → holds_reaching (filled spec) inv place ≡ holds_reaching spec inv place
  same_reaching inv None = refl
  same_reaching inv (Some place) = refl

  same_entering : (pre : Precondition) (place : Option Place) → holds_entering (filled spec) pre place ≡ holds_entering spec pre place
  same_entering pre None = refl
  same_entering pre (Some place) = refl

  same_on_way : (inv : Invariant) (i : ConfId) (j : ℕ) → holds_on_way (filled spec) inv i j ≡ holds_on_way spec inv i j
  same_on_way inv i j = ap (λ (b : Bool). not (is_target spec i j) || b) (same_reaching inv (place_of spec (conf_id j) inv.app.0))

  same_reached : (inv : Invariant) (i : ConfId) → holds_reached (filled spec) inv i ≡ holds_reached spec inv i
  same_reached inv i = same_all (holds_on_way (filled spec) inv i) (holds_on_way spec inv i) (length spec.confs) (same_on_way inv i)

  same_from : (inv : Invariant) (i : ConfId) → holds_from (filled spec) inv i ≡ holds_from spec inv i
  same_from inv i = rw (same_leaving inv (place_of spec i inv.app.0), same_reached inv i) refl

  same_breaks : (inv : Invariant) (i : ConfId) → breaks_from (filled spec) inv i ≡ breaks_from spec inv i
  same_breaks inv i = rw (same_from inv i) refl

  invariant_kept : (k : ℕ) (o : Option Invariant) → option_map_or (invariant_refusal_of spec k) o None ≡ None → option_map_or (invariant_refusal_of (filled spec) k) o None ≡ None
  invariant_kept k None none = refl
  invariant_kept k (Some inv) none = none_below _ (length spec.confs) (λ i left.
      none_shown (breaks_from (filled spec) inv (conf_id i)) _
      (same_breaks inv (conf_id i) ∙ not_shown (breaks_from spec inv (conf_id i)) _ (below_none _ (length spec.confs) i none left)))

  precondition_kept : (k : ℕ) (o : Option Precondition) → option_map_or (precondition_refusal_of spec k) o None ≡ None → option_map_or (precondition_refusal_of (filled spec) k) o None ≡ None
  precondition_kept k None none = refl
  precondition_kept k (Some pre) none =
      none_shown (breaks_entering (filled spec) pre) _
      (ap not (same_entering pre (place_of spec pre.conf pre.app.0)) ∙ not_shown (breaks_entering spec pre) _ none)

  range_kept : range_refusal spec ≡ None → range_refusal (filled spec) ≡ None
  range_kept none = none_both _ _
      (none_below _ (length spec.invariants) (λ k left. invariant_kept k (slice_get spec.invariants k) (below_none _ (length spec.invariants) k (none_left (invariant_refusal spec) (precondition_refusal spec) none) left)))
      (none_below _ (length spec.preconditions) (λ k left. precondition_kept k (slice_get spec.preconditions k) (below_none _ (length spec.preconditions) k (none_right (invariant_refusal spec) (precondition_refusal spec) none) left)))

pub filled_is_accepted : FilledIsAccepted
filled_is_accepted spec made writable form choice range demand free =
    let times : length_refusal spec ≡ None = none_right (state_refusal spec) (length_refusal spec) free in
    let sound = filled_is_spec spec made writable times in
    record {
      sound = sound;
      writable = filled_is_writable spec made writable times;
      accepted = (accepts_iff_unrefused (filled spec) sound).accepted
          (none_both _ _ (form_kept spec form) (none_both _ _ (choice_kept spec choice)
          (none_both _ _ (none_both _ _ (bounds_serve spec) (window_serves spec)) (none_both _ _ (range_kept spec range) (demand_kept spec demand)))));
    }
