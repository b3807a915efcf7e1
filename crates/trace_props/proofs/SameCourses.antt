-- The rows of a script are the rows of a run of its course. The course of a script within its assumption keeps to the
-- failure assumption.
use Rattle.std.proofs.Common.{◌≡◌, ℕ, zero, suc, ◌+◌, ◌-◌, ◌<◌, ◌≤◌, Bool, true, false, not, refl, arith, ◌⊎◌, ap, ◌∙◌, List, [], ◌∷◌, length}
use mathlib.Core.Logic.{inl, inr}
use Rattle.std.specs.Prelude.{Some, None, slice_get, nat_le, ◌&&◌, ◌==◌, ◌^◌, if◌then◌else◌}
use Rattle.std.specs.Int.{bit_at}
use Rattle.scram_types.specs.declared.rows.Env.{Env}
use Rattle.scram_types.specs.declared.scripts.Change.{Change}
use Rattle.scram_types.specs.declared.specification.Factor.{Factor}
use Rattle.scram_types.specs.Scripts.{ScriptParts}
use Rattle.scram_types.specs.Specification.{IsSpec, Parts}
use Rattle.scram_types.proofs.Booleans.{and_right, and_true}
use Rattle.scram_types.proofs.Naturals.{at_most, below_test, at_most_test, low_or_high}
use Rattle.scram_types.proofs.Options.{none_or_some}
use Rattle.scram_types.specs.Bits.{count_below, bits_below}
use Rattle.scram_types.proofs.BitSets.{no_bit}
use Rattle.scram_types.specs.Lookups.{opening_env}
use Rattle.scram_types.proofs.Searches.{each_all}
use Rattle.choice_table.specs.Environments.{factor_in, in_scope, is_up_in}
use Rattle.fault_script.specs.Assumption as assumption
use Rattle.fault_script.specs.Environments.{env_at}
use Rattle.fault_script.specs.Fits.{Fits}
use Rattle.fault_script.specs.Laws.{EnvironmentsShow, LossesShow, Shows}
use Rattle.fault_script.specs.Times.{factor_at, is_up, value_after}
use Rattle.trace_props.proofs.Courses as courses
use Rattle.trace_props.proofs.Courses.{IsCourseWithin}
use Rattle.trace_props.proofs.CourseRows.{IsRun}
use Rattle.trace_props.proofs.Tests.{by_test}
use Rattle.trace_props.proofs.Products.{build_of, course_of, has_value, is_env, plan_of}
use Rattle.trace_props.proofs.SameActs.{committed, runs_same}

-- Lemmas that every course opens with all processors up and each factor at its first value.
all_bits : (n : ℕ) → suc (bits_below (λ p. true) n) ≡ 2 ^ n
all_bits zero = refl
all_bits (suc n) = let before = all_bits n in grind (arith, before)

first_value : (x : ℕ) (changes : List Change) (value : ℕ) → ((k : ℕ) (change : Change) → slice_get changes k ≡ Some change → 1 ≤ change.frame) → value_after changes x 0 value ≡ value
first_value x [] value later = refl
first_value x (change ∷ changes) value later =
    by_test (λ v. value_after changes x 0 v ≡ value) (change.factor.0 == x && nat_le change.frame 0) _ _
    (λ e. let early = at_most change.frame 0 (and_right (change.factor.0 == x) _ e) in let least = later 0 change refl in absurd (omega arith))
    (λ e. first_value x changes value (λ k other there. later (suc k) other there))

opens : (spec : Parts) (script : ScriptParts) → Fits spec script → env_at spec script 0 ≡ opening_env spec
opens spec script fits = made _ _ _ _ (let all = all_bits (length spec.procs) in omega arith) (sixth (at 0) (at 1) (at 2) (at 3) (at 4) (at 5))
  where
    made : (a b : ℕ) (xs ys : List ℕ) → a ≡ b → xs ≡ ys → ◌≡◌ {A = Env} (record { up = a; factors = xs }) (record { up = b; factors = ys })
    made a b xs ys e k = rw (e, k) refl

    at : (x : ℕ) → factor_at script x 0 ≡ 0
    at x = first_value x script.changes 0 (λ k change there. (fits.changes k change there).least)

    sixth : {a b c d e f : ℕ} → a ≡ 0 → b ≡ 0 → c ≡ 0 → d ≡ 0 → e ≡ 0 → f ≡ 0 → ◌≡◌ {A = List ℕ} (a ∷ b ∷ c ∷ d ∷ e ∷ f ∷ []) (0 ∷ 0 ∷ 0 ∷ 0 ∷ 0 ∷ 0 ∷ [])
    sixth p q r s t u = rw (p, q, r, s, t, u) refl

-- Lemmas that every environment of a script belongs to the specification.
six_at : (spec : Parts) (script : ScriptParts) (f x : ℕ) → x < 6 → factor_in (env_at spec script f) x ≡ factor_at script x f
six_at spec script f zero h = refl
six_at spec script f (suc zero) h = refl
six_at spec script f (suc (suc zero)) h = refl
six_at spec script f (suc (suc (suc zero))) h = refl
six_at spec script f (suc (suc (suc (suc zero)))) h = refl
six_at spec script f (suc (suc (suc (suc (suc zero))))) h = refl
six_at spec script f (suc (suc (suc (suc (suc (suc x)))))) h = absurd (omega arith)

past_factors : (xs : List Factor) (x : ℕ) → slice_get xs x ≡ None → length xs ≤ x
past_factors [] x h = omega arith
past_factors (y ∷ ys) zero h = cc
past_factors (y ∷ ys) (suc x) h = let before = past_factors ys x h in omega arith

belongs : (spec : Parts) (script : ScriptParts) (f : ℕ) → Shows spec script f → is_env spec (env_at spec script f) ≡ true
belongs spec script f shows =
    let low = below_test (env_at spec script f).up (2 ^ length spec.procs) shows.past in
    let each = each_all (has_value spec (env_at spec script f)) 6 (λ x below. has x below (none_or_some (slice_get spec.factors x))) in
    rw (low, each) refl
  where
    has : (x : ℕ) → x < 6 → (slice_get spec.factors x ≡ None) ⊎ ((factor : Factor) × (slice_get spec.factors x ≡ Some factor)) → has_value spec (env_at spec script f) x ≡ true
    has x below (inl none) =
        let zero_there = six_at spec script f x below ∙ shows.rest x (past_factors spec.factors x none) in
        rw (none, zero_there) refl
    has x below (inr some) =
        let there = six_at spec script f x below in
        rw (some.1, there) (below_test (factor_at script x f) (length some.0.values) (shows.values x some.0 some.1))

-- Lemmas that a processor is up in an environment if and only if its bit is set.
bit_up : (v : Env) (p : ℕ) → bit_at v.up p ≡ 1 → is_up_in v p ≡ true
bit_up v p h = rw h refl

pub bit_down : (v : Env) (p : ℕ) → bit_at v.up p ≡ 0 → is_up_in v p ≡ false
bit_down v p h = rw h refl

down_in : (spec : Parts) (script : ScriptParts) (f : ℕ) → Shows spec script f → (p : ℕ) → is_up script p f ≡ false → is_up_in (env_at spec script f) p ≡ false
down_in spec script f shows p down = elim (low_or_high p (length spec.procs)) [
  | inl low ↦ bit_down (env_at spec script f) p (shows.down p low down)
  | inr high ↦ bit_down (env_at spec script f) p (no_bit (env_at spec script f).up (length spec.procs) p shows.past high)
]

up_as : (spec : Parts) (script : ScriptParts) (f : ℕ) → Shows spec script f → (p : ℕ) → p < length spec.procs → (b : Bool) → is_up script p f ≡ b → is_up_in (env_at spec script f) p ≡ b
up_as spec script f shows p low true up = bit_up (env_at spec script f) p (shows.up p low up)
up_as spec script f shows p low false down = bit_down (env_at spec script f) p (shows.down p low down)

counted_down : (spec : Parts) (script : ScriptParts) (f : ℕ) → Shows spec script f → (n : ℕ) → n ≤ length spec.procs
    → assumption.down_below script f n ≡ count_below (λ p. not (is_up_in (env_at spec script f) p)) n
counted_down spec script f shows zero few = refl
counted_down spec script f shows (suc n) few =
    let before = counted_down spec script f shows n (omega arith) in
    let here = up_as spec script f shows n (omega arith) (is_up script n f) refl in
    rw (here, ← before) refl

scope : (spec : Parts) (script : ScriptParts) (f : ℕ) → Shows spec script f → assumption.down_below script f (length spec.procs) ≤ spec.halts → in_scope spec (env_at spec script f) ≡ true
scope spec script f shows few = at_most_test _ spec.halts (rw (counted_down spec script f shows (length spec.procs) (omega arith)) at few)

pub counts_same : (spec : Parts) (script : ScriptParts) (f : ℕ) → courses.course_changes_upto (plan_of spec) (env_at spec script) f ≡ assumption.changes_upto spec script f
counts_same spec script zero = refl
counts_same spec script (suc f) = ap (λ n. n + (if assumption.is_change_frame spec script (suc f) then 1 else 0)) (counts_same spec script f)

pub within_of : (spec : Parts) (script : ScriptParts) → IsSpec spec → Fits spec script → EnvironmentsShow → assumption.IsWithin spec script → IsCourseWithin (plan_of spec) (course_of spec script)
within_of spec script sound fits show within = record {
  opens = opens spec script fits;
  scope = λ f inside. and_true _ _ (belongs spec script f (show spec script sound fits f)) (scope spec script f (show spec script sound fits f) (within.scope f inside));
  few = λ f inside. rw (counts_same spec script f, counts_same spec script (f - spec.window)) (within.few f inside);
}

pub run_of : (spec : Parts) (script : ScriptParts) → IsSpec spec → Fits spec script → EnvironmentsShow → LossesShow → IsRun (plan_of spec) (build_of spec) (course_of spec script) (committed spec script)
run_of spec script sound fits show losses = record {
  runs_is = λ f j inside. runs_same spec sound script f j;
  running_is = λ f inside. refl;
  loses = λ f p inside lost. elim (losses spec script fits p f lost) [
    | inl down ↦ inl (down_in spec script f (show spec script sound fits f) p down)
    | inr down ↦ inr (down_in spec script (suc f) (show spec script sound fits (suc f)) p down)
  ];
}
