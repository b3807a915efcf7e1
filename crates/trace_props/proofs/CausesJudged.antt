-- `causeless_at` is the frame in which a reconfiguration breaks SP5, given the reconfiguration just before, or `None`
-- if the reconfiguration keeps SP5.
use Rattle.std.proofs.Common.{◌≡◌, ℕ, zero, suc, ◌+◌, ◌-◌, ◌<◌, ◌≤◌, true, false, refl, arith, ap, sym, ◌∙◌, List, [], ◌∷◌, length, ◌⊎◌, subst}
use mathlib.Core.Logic.{inl, inr}
use Rattle.std.specs.Prelude.{Option, Some, None, slice_get, ◌==◌, ◌&&◌, ◌||◌, nat_le, is_some, option_map}
use Rattle.std.proofs.lemmas.Option.{slice_get_within}
use Rattle.std.proofs.lemmas.Bool.{not_from_false}
use Rattle.scram_types.specs.declared.rows.Env.{Env}
use Rattle.scram_types.specs.declared.rows.Report.{Report}
use Rattle.scram_types.specs.declared.rows.Row.{Row}
use Rattle.scram_types.specs.declared.specification.Policy.{Policy}
use Rattle.scram_types.specs.declared.specification.Policy.TheVariants.{Retarget, Settle}
use Rattle.scram_types.specs.Specification.{Parts}
use Rattle.scram_types.proofs.Booleans.{and_left, and_right, true_false, and_true, or_cases, or_left, or_right, or_false, by_bool}
use Rattle.scram_types.proofs.Naturals.{equal, above, at_most, equal_test, plus_one}
use Rattle.scram_types.proofs.Options.{same_some, some_none}
use Rattle.scram_types.specs.Searches.{least_from}
use Rattle.fault_script.specs.Assumption.{is_same_env}
use Rattle.frame_model.specs.Readings.{reports}
use Rattle.trace_props.specs.Judging.{causeless_at, changes_in, follows, has_cause, is_another_env, settles}
use Rattle.trace_props.specs.Properties.{ChangesIn, FollowsAnother, KeepsSp5}
use Rattle.trace_props.proofs.Firsts.{InSpan, IsLeastOf, least_span}
use Rattle.trace_props.proofs.Tests.{by_test}
use Rattle.trace_props.proofs.Accepting.{same_env}
use Rattle.trace_props.proofs.TimesKept.{not_same}
use Rattle.trace_props.proofs.TargetsJudged.{Judges}
use Rattle.scram_types.specs.Lookups.{env_before, env_in}

-- Lemmas that the test of SP5 decides whether the environment changes in a row.
row_past : (rows : List Row) (f : ℕ) → slice_get rows f ≡ None → length rows ≤ f
row_past [] f h = omega arith
row_past (row ∷ rows) zero h = absurd (let no : ◌≡◌ {A = Option Row} (Some row) None = h in cc)
row_past (row ∷ rows) (suc f) h = let rest = row_past rows f h in omega arith

module _ (spec : Parts) (rows : List Row) where
  row_of : (f : ℕ) (v : Env) (o : Option Row) → slice_get rows f ≡ o → env_in rows f ≡ Some v → f < length rows
  row_of f v None e h = absurd (some_none v (sym (ap (option_map (λ (row : Row). row.env)) (sym e) ∙ h)))
  row_of f v (Some row) e h = slice_get_within rows f row e

  other_of : (f : ℕ) (now before : Option Env) → env_in rows f ≡ now → env_before spec rows f ≡ before → is_another_env now before ≡ true → ChangesIn spec rows f
  other_of f None before e k h = absurd (true_false false h refl)
  other_of f (Some v) None e k h = record {
    inside = row_of f v (slice_get rows f) refl e;
    differ = λ same. some_none v (sym (sym k ∙ sym same ∙ e));
  }
  other_of f (Some v) (Some w) e k h = record {
    inside = row_of f v (slice_get rows f) refl e;
    differ = λ same. not_same v w h (same_some v w (sym e ∙ same ∙ k));
  }

  pub change_of : (f : ℕ) → changes_in spec rows f ≡ true → ChangesIn spec rows f
  change_of f h = other_of f (env_in rows f) (env_before spec rows f) refl refl h

  other_is : (f : ℕ) (now before : Option Env) → env_in rows f ≡ now → env_before spec rows f ≡ before → (o : Option Row) → slice_get rows f ≡ o → ChangesIn spec rows f → is_another_env now before ≡ true
  other_is f None before e k None at c = absurd (let past = row_past rows f at in let inside = c.inside in omega arith)
  other_is f None before e k (Some row) at c = absurd (some_none row.env (sym (sym e ∙ ap (option_map (λ (x : Row). x.env)) at)))
  other_is f (Some v) None e k o at c = refl
  other_is f (Some v) (Some w) e k o at c = by_bool (is_same_env v w)
      (λ same. absurd (c.differ (e ∙ ap (λ (x : Env). Some x) (same_env v w same) ∙ sym k)))
      (λ other. not_from_false (is_same_env v w) other)

  change_is : (f : ℕ) → ChangesIn spec rows f → changes_in spec rows f ≡ true
  change_is f c = other_is f (env_in rows f) (env_before spec rows f) refl refl (slice_get rows f) refl c

settles_of : (policy : Policy) → settles policy ≡ true → policy ≡ Settle
settles_of Retarget h = absurd (true_false false h refl)
settles_of Settle h = refl

some_found : (A : ℕ → Type 0) (o : Option ℕ) → IsLeastOf A o → is_some o ≡ true → (f : ℕ) × A f
some_found A None h e = absurd (true_false false e refl)
some_found A (Some f) h e = (f, h.0)

found_some : (A : ℕ → Type 0) (o : Option ℕ) → IsLeastOf A o → (f : ℕ) → A f → is_some o ≡ true
found_some A None h f a = absurd (h f a)
found_some A (Some g) h f a = refl

-- If `before` is present, it is a reconfiguration that was read. Each reconfiguration that ended in the row before
-- the begin of `r` is `before`.
pub record IsJustBefore (spec : Parts) (rows : List Row) (before : Option Report) (r : Report) : Type 0 where
  pub there : (x : Report) → before ≡ Some x → (place : ℕ) × (slice_get (reports spec rows) place ≡ Some x)
  pub only : (place : ℕ) (x : Report) → slice_get (reports spec rows) place ≡ Some x → suc x.end ≡ r.begin → before ≡ Some x

module _ (spec : Parts) (rows : List Row) (r : Report) where
  abbrev first_change : Report → Option ℕ
  first_change x = least_from (changes_in spec rows) (x.begin + 1) (x.end + 1 - (x.begin + 1))

  change_least : (x : Report) → IsLeastOf (InSpan (changes_in spec rows) (x.begin + 1) (x.end + 1 - (x.begin + 1))) (first_change x)
  change_least x = least_span (changes_in spec rows) (x.begin + 1) (x.end + 1 - (x.begin + 1))

  follows_of : (before : Option Report) → IsJustBefore spec rows before r → follows spec rows before r ≡ true → FollowsAnother spec rows r
  follows_of None just h = absurd (true_false false h refl)
  follows_of (Some x) just h =
      let place = just.there x refl in
      let two = and_left (settles spec.policy && x.end + 1 == r.begin) _ h in
      let last = equal (x.end + 1) r.begin (and_right (settles spec.policy) _ two) in
      let found = some_found (InSpan (changes_in spec rows) (x.begin + 1) (x.end + 1 - (x.begin + 1))) (first_change x) (change_least x)
      (and_right (settles spec.policy && x.end + 1 == r.begin) _ h) in
      record {
        settles = settles_of spec.policy (and_left (settles spec.policy) _ two);
        before = x;
        place = place.0;
        there = place.1;
        last = omega arith;
        change = found.0;
        after = (let from = found.1.from in omega arith);
        up_to = (let from = found.1.from in let inside = found.1.up_to in omega arith);
        changes = change_of spec rows found.0 found.1.passes;
      }

  follows_is : (before : Option Report) → IsJustBefore spec rows before r → FollowsAnother spec rows r → follows spec rows before r ≡ true
  follows_is before just h =
      rw (just.only h.place h.before h.there h.last) (and_true (settles spec.policy && h.before.end + 1 == r.begin) _
      (and_true (settles spec.policy) _ (rw h.settles refl) (last_is (h.before.end + 1) r.begin (let last = h.last in omega arith)))
      (found_some (InSpan (changes_in spec rows) (h.before.begin + 1) (h.before.end + 1 - (h.before.begin + 1))) (first_change h.before) (change_least h.before) h.change
      (record { from = (let after = h.after in omega arith); up_to = (let up_to = h.up_to in let after = h.after in omega arith); passes = change_is spec rows h.change h.changes })))
    where
      last_is : (a b : ℕ) → a ≡ b → (a == b) ≡ true
      last_is a b e = rw e (equal_test b b refl)

  cause_of : (before : Option Report) → IsJustBefore spec rows before r → has_cause spec rows before r ≡ true
      → ChangesIn spec rows r.begin ⊎ ChangesIn spec rows (suc r.begin) ⊎ FollowsAnother spec rows r
  cause_of before just h = elim (or_cases (changes_in spec rows r.begin || changes_in spec rows (r.begin + 1)) (follows spec rows before r) h) [
    | inl change ↦ elim (or_cases (changes_in spec rows r.begin) (changes_in spec rows (r.begin + 1)) change) [
      | inl now ↦ inl (change_of spec rows r.begin now)
      | inr next ↦ inr (inl (change_of spec rows (suc r.begin) (next_is next)))
    ]
    | inr after ↦ inr (inr (follows_of before just after))
  ]
    where
      next_is : changes_in spec rows (r.begin + 1) ≡ true → changes_in spec rows (suc r.begin) ≡ true
      next_is now = subst (λ (n : ℕ). changes_in spec rows n ≡ true) (sym (plus_one r.begin)) now

  cause_is : (before : Option Report) → IsJustBefore spec rows before r → ChangesIn spec rows r.begin ⊎ ChangesIn spec rows (suc r.begin) ⊎ FollowsAnother spec rows r
      → has_cause spec rows before r ≡ true
  cause_is before just h = elim h [
    | inl now ↦ or_left (changes_in spec rows r.begin || changes_in spec rows (r.begin + 1)) (follows spec rows before r)
        (or_left (changes_in spec rows r.begin) (changes_in spec rows (r.begin + 1)) (change_is spec rows r.begin now))
    | inr later ↦ elim later [
      | inl next ↦ or_left (changes_in spec rows r.begin || changes_in spec rows (r.begin + 1)) (follows spec rows before r)
          (or_right (changes_in spec rows r.begin) (changes_in spec rows (r.begin + 1)) (subst (λ (n : ℕ). changes_in spec rows n ≡ true) (plus_one r.begin) (change_is spec rows (suc r.begin) next)))
      | inr after ↦ or_right (changes_in spec rows r.begin || changes_in spec rows (r.begin + 1)) (follows spec rows before r) (follows_is before just after)
    ]
  ]

  pub sp5_judged : (before : Option Report) → IsJustBefore spec rows before r → Judges (KeepsSp5 spec rows r) r.begin (causeless_at spec rows before r)
  sp5_judged before just = by_test {A = Option ℕ} (Judges (KeepsSp5 spec rows r) r.begin) (nat_le (length rows) (r.begin + 1) || has_cause spec rows before r) None (Some r.begin)
      (λ h asked. elim (or_cases (nat_le (length rows) (r.begin + 1)) (has_cause spec rows before r) h) [
        | inl last ↦ absurd (let few = at_most (length rows) (r.begin + 1) last in omega arith)
        | inr cause ↦ cause_of before just cause
      ])
      (λ h. (
        (λ keeps. (let more = above (length rows) (r.begin + 1) ((or_false (nat_le (length rows) (r.begin + 1)) (has_cause spec rows before r) h).0) in
            true_false (has_cause spec rows before r) (cause_is before just (keeps (omega arith))) ((or_false (nat_le (length rows) (r.begin + 1)) (has_cause spec rows before r) h).1))),
        refl,
      ))
