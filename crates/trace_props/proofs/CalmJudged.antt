-- `unsatisfied_at` is the frame of the first calm row that does not satisfy the demands, or `None` if SP6 holds.
use Rattle.std.proofs.Common.{◌≡◌, ℕ, zero, suc, ◌-◌, ◌<◌, ◌≤◌, Bool, true, false, not, refl, arith, ap, sym, ◌∙◌, List, [], ◌∷◌, length}
use mathlib.Core.Logic.{inl, inr}
use Rattle.std.specs.Prelude.{Option, Some, None, slice_get, option_map, nat_le}
use Rattle.std.specs.List.{list_any}
use Rattle.std.proofs.lemmas.Option.{slice_get_within}
use Rattle.scram_types.specs.declared.rows.Env.{Env}
use Rattle.scram_types.specs.declared.rows.Row.{Row}
use Rattle.scram_types.specs.declared.orders.Act.{Act}
use Rattle.scram_types.specs.declared.orders.Act.TheVariants as act
use Rattle.scram_types.specs.Specification.{Parts}
use Rattle.scram_types.proofs.Booleans.{and_left, and_right, and_true, not_true, or_false, true_false}
use Rattle.scram_types.proofs.Naturals.{at_most, at_most_test, at_or_below}
use Rattle.fault_script.specs.Assumption.{is_same_env}
use Rattle.coverage_check.specs.Timing.{greatest_bound}
use Rattle.frame_model.specs.Runs.{act_at}
use Rattle.trace_props.specs.Breaks.{BreaksSp6}
use Rattle.trace_props.specs.Judging.{breaks_calm, held_since, is_another_env, is_lost, is_unsatisfied, loses_some, unsatisfied_at, unsatisfied_in}
use Rattle.trace_props.specs.Properties.{is_satisfied}
use Rattle.trace_props.proofs.Firsts.{InSpan, IsLeastOf, least_moved, least_span}
use Rattle.trace_props.proofs.Tests.{by_test}
use Rattle.trace_props.proofs.Accepting.{same_env}
use Rattle.trace_props.proofs.TimesKept.{same_self}
use Rattle.scram_types.specs.Lookups.{env_in}

not_of_true : (b : Bool) → not b ≡ true → b ≡ false
not_of_true true h = cc
not_of_true false h = refl

not_of_false : (b : Bool) → not b ≡ false → b ≡ true
not_of_false true h = refl
not_of_false false h = cc

-- Lemmas on the lost applications of a row.
lost_is : (x : Act) → is_lost x ≡ true → x ≡ act.Lost
lost_is (act.Ran mode proc) h = absurd (true_false false h refl)
lost_is (act.Halting k n proc) h = absurd (true_false false h refl)
lost_is act.Held h = absurd (true_false false h refl)
lost_is (act.Preparing k n proc) h = absurd (true_false false h refl)
lost_is (act.Initialising k n proc) h = absurd (true_false false h refl)
lost_is act.Off h = absurd (true_false false h refl)
lost_is act.Lost h = refl

none_lost : (acts : List Act) → list_any is_lost acts ≡ false → (a : ℕ) → act_at acts a ≡ act.Lost → ⊥
none_lost [] h a e = cc
none_lost (x ∷ xs) h zero e = true_false (is_lost x) (rw e refl) (or_false (is_lost x) (list_any is_lost xs) h).0
none_lost (x ∷ xs) h (suc a) e = none_lost xs (or_false (is_lost x) (list_any is_lost xs) h).1 a e

lost_none : (acts : List Act) → ((a : ℕ) → act_at acts a ≡ act.Lost → ⊥) → list_any is_lost acts ≡ false
lost_none [] whole = refl
lost_none (x ∷ xs) whole = rw (not_true (is_lost x) (λ h. whole 0 (lost_is x h)), lost_none xs (λ a. whole (suc a))) refl

-- If the test for another environment fails, then the environment of a row equals the environment of the preceding
-- row.
unchanged : (v : Env) (o before : Option Env) → o ≡ Some v → is_another_env o before ≡ false → before ≡ o
unchanged v None before e h = cc
unchanged v (Some w) None e h = absurd (true_false true refl h)
unchanged v (Some w) (Some u) e h = ap Some (sym (same_env w u (not_of_false (is_same_env w u) h)))

same_other : (o : Option Env) → is_another_env o o ≡ false
same_other None = refl
same_other (Some v) = rw (same_self v) refl

module _ (spec : Parts) (rows : List Row) where
  there : (xs : List Row) (f : ℕ) → f < length xs → (row : Row) × (slice_get xs f ≡ Some row)
  there [] f h = absurd (omega arith)
  there (x ∷ xs) zero h = (x, refl)
  there (x ∷ xs) (suc f) h = there xs f (omega arith)

  -- From frame `held_since rows t` up to frame `t`, the environment is the environment of row `t`.
  same_since : (t f : ℕ) → t < length rows → held_since rows t ≤ f → f ≤ t → env_in rows f ≡ env_in rows t
  same_since zero f inside late early = let e : f ≡ 0 = omega arith in rw e refl
  same_since (suc t) f inside late early =
      by_test (λ k. k ≤ f → env_in rows f ≡ env_in rows (suc t)) (is_another_env (env_in rows (suc t)) (env_in rows t)) (suc t) (held_since rows t)
      (λ e low. let at : f ≡ suc t = omega arith in rw at refl)
      (λ e low. elim (at_or_below f t early) [
        | inl before ↦
            let row = there rows (suc t) inside in
            same_since t f (omega arith) low before ∙ unchanged row.0.env (env_in rows (suc t)) (env_in rows t) (ap (option_map (λ (r : Row). r.env)) row.1) e
        | inr at ↦ rw at refl
      ])
      late

  held_most : (t : ℕ) → held_since rows t ≤ t
  held_most zero = omega arith
  held_most (suc t) = by_test (λ k. k ≤ suc t) (is_another_env (env_in rows (suc t)) (env_in rows t)) (suc t) (held_since rows t) (λ e. omega arith) (λ e. let before = held_most t in omega arith)

  held_least : (t s : ℕ) → s ≤ t → ((f : ℕ) → s ≤ f → f ≤ t → env_in rows f ≡ env_in rows t) → held_since rows t ≤ s
  held_least zero s h all = omega arith
  held_least (suc t) s h all =
      by_test (λ k. k ≤ s) (is_another_env (env_in rows (suc t)) (env_in rows t)) (suc t) (held_since rows t)
      (λ e. elim (at_or_below s t h) [
        | inl before ↦ absurd (true_false _ e (rw (all t before (omega arith)) (same_other (env_in rows (suc t)))))
        | inr at ↦ omega (arith, at)
      ])
      (λ e. elim (at_or_below s t h) [
        | inl before ↦ held_least t s before (λ f late early. all f late (omega arith) ∙ sym (all t before (omega arith)))
        | inr at ↦ let most = held_most t in omega (arith, at)
      ])

  calm_of : (g : ℕ) (o : Option Row) → g < length rows → slice_get rows g ≡ o → greatest_bound spec.bounds ≤ g - held_since rows g → unsatisfied_in spec o ≡ true → BreaksSp6 spec rows g
  calm_of g None inside e long h = absurd (true_false false h refl)
  calm_of g (Some row) inside e long h =
      let most = held_most g in
      record {
        row = row;
        calm = record {
          there = e;
          late = omega arith;
          still = λ f late early. same_since g f inside (omega arith) early ∙ ap (option_map (λ (r : Row). r.env)) e;
          whole = none_lost row.acts (not_of_true (loses_some row) (and_left (not (loses_some row)) _ h));
        };
        broken = not_of_true (is_satisfied spec row) (and_right (not (loses_some row)) _ h);
      }

  calm_is : (g : ℕ) → BreaksSp6 spec rows g → breaks_calm spec rows g ≡ true
  calm_is g b =
      let calm = b.calm in
      let late = calm.late in
      let same : (f : ℕ) → g - greatest_bound spec.bounds ≤ f → f ≤ g → env_in rows f ≡ env_in rows g = λ f from up_to.
      calm.still f (omega arith) up_to ∙ sym (ap (option_map (λ (r : Row). r.env)) calm.there) in
      let held = held_least g (g - greatest_bound spec.bounds) (omega arith) same in
      let unsatisfied : is_unsatisfied spec b.row ≡ true = rw (lost_none b.row.acts calm.whole, b.broken) refl in
      and_true (nat_le (greatest_bound spec.bounds) (g - held_since rows g)) (unsatisfied_in spec (slice_get rows g)) (at_most_test (greatest_bound spec.bounds) (g - held_since rows g) (omega arith))
      (ap (unsatisfied_in spec) calm.there ∙ unsatisfied)

  pub sp6_least : IsLeastOf (BreaksSp6 spec rows) (unsatisfied_at spec rows)
  sp6_least = least_moved (InSpan (breaks_calm spec rows) 0 (length rows)) (BreaksSp6 spec rows)
      (λ g s. let up_to = s.up_to in
      calm_of g (slice_get rows g) (omega arith) refl (at_most (greatest_bound spec.bounds) (g - held_since rows g) (and_left (nat_le (greatest_bound spec.bounds) (g - held_since rows g)) _ s.passes))
      (and_right (nat_le (greatest_bound spec.bounds) (g - held_since rows g)) _ s.passes))
      (λ g b. let inside = slice_get_within rows g b.row b.calm.there in record { from = omega arith; up_to = omega arith; passes = calm_is g b })
      (unsatisfied_at spec rows) (least_span (breaks_calm spec rows) 0 (length rows))
