-- The plan of an accepted specification is an accepted plan.
use Rattle.std.proofs.Common.{◌≡◌, ℕ, zero, suc, ◌+◌, ◌<◌, ◌≤◌, Bool, true, false, refl, arith, ◌⊎◌, ◌≢◌, ap, sym, List, [], ◌∷◌, length, not}
use mathlib.Core.Logic.{inl, inr}
use Rattle.std.specs.Prelude.{Option, Some, None, slice_get, is_some, option_and_then, nat_lt, ◌&&◌, ◌==◌, ◌^◌, if◌then◌else◌}
use Rattle.std.specs.Option.{option_map_or}
use Rattle.std.specs.Str.{bytes_eq}
use Rattle.std.proofs.lemmas.Option.{slice_get_within, slice_get_past}
use Rattle.std.proofs.lemmas.Slice.Eq.{bytes_eq-Decides}
use Rattle.std.proofs.lemmas.Bool.{not-false}
use Rattle.scram_types.specs.declared.ids.ConfId.{ConfId}
use Rattle.scram_types.specs.declared.rows.Env.{Env}
use Rattle.scram_types.specs.declared.specification.Bound.{Bound}
use Rattle.scram_types.specs.declared.specification.Choice.{Choice}
use Rattle.scram_types.specs.declared.specification.Conf.{Conf}
use Rattle.scram_types.specs.declared.specification.Factor.{Factor}
use Rattle.scram_types.specs.declared.specification.Place.{Place}
use Rattle.scram_types.specs.declared.specification.Policy.{Policy}
use Rattle.scram_types.specs.declared.specification.Policy.TheVariants.{Retarget, Settle}
use Rattle.scram_types.specs.Specification.{IsSpec, Parts, bound_in, place_in}
use Rattle.scram_types.proofs.Booleans.{and_left, and_right, true_false}
use Rattle.scram_types.proofs.Naturals.{equal, below, low_or_high}
use Rattle.scram_types.specs.Lookups.{is_on, place_of, conf_id}
use Rattle.scram_types.proofs.Searches.{fails_below, greatest_most}
use Rattle.scram_types.specs.Searches.{all_below}
use Rattle.choice_table.specs.Choices.{IsTarget, choose, rule_fits, target_among}
use Rattle.choice_table.specs.Environments.{IsEnv, factor_in, in_scope}
use Rattle.dep_order.specs.Timetables.{IsInTime, halting_time, initialising_time, preparing_time}
use Rattle.fault_script.specs.Assumption.{is_same_env}
use Rattle.coverage_check.specs.Acceptance.{Accepts}
use Rattle.coverage_check.specs.Timing.{further}
use Rattle.trace_props.proofs.Plans as plans
use Rattle.trace_props.proofs.Plans.{IsAcceptedPlan}
use Rattle.trace_props.proofs.Tests.{by_test}
use Rattle.trace_props.proofs.Builds.{all_at}
use Rattle.trace_props.proofs.Products.{has_value, is_env, plan_of, settles_under}

-- If each rule's target exists, then so does the target that is chosen among the rules.
target_known : (n : ℕ) (c : ConfId) (v : Env) (rules : List Choice) → ((k : ℕ) (rule : Choice) → slice_get rules k ≡ Some rule → rule.to.0 < n) → c.0 < n → (target_among rules c v).0 < n
target_known n c v [] to known = known
target_known n c v (rule ∷ rules) to known =
    by_test (λ (t : ConfId). t.0 < n) (rule_fits c v rule) _ _ (λ e. to 0 rule refl) (λ e. target_known n c v rules (λ k other there. to (suc k) other there) known)

-- If a property holds for the frames of each bound in a list, then the property holds for the frames of the bound
-- from `i` to `j`.
pub bound_each : (P : ℕ → Type 0) (i j t : ℕ) (bounds : List Bound) → ((k : ℕ) (bound : Bound) → slice_get bounds k ≡ Some bound → P bound.frames) → bound_in bounds i j ≡ Some t → P t
bound_each P i j t [] each is = cc
bound_each P i j t (bound ∷ bounds) each is =
    by_test (λ o. o ≡ Some t → P t) (bound.from.0 == i && bound.to.0 == j) (Some bound.frames) (bound_in bounds i j)
    (λ e given. let same : bound.frames ≡ t = cc in rw (← same) (each 0 bound refl))
    (λ e given. bound_each P i j t bounds (λ k other there. each (suc k) other there) given) is

pub further_same : (policy : Policy) (n : ℕ) → (if settles_under policy then suc n else n) ≡ further policy n
further_same Retarget n = refl
further_same Settle n = refl

-- If not every number below `n` fails a test, then some number below `n` passes it.
pub some_passes : (test : ℕ → Bool) (n : ℕ) → all_below (λ a. not (test a)) n ≡ false → (a : ℕ) × (a < n) × (test a ≡ true)
some_passes test n h = let found = fails_below (λ a. not (test a)) n h in (found.0, found.1, not-false (test found.0) found.2)

on_placed : (o : Option Place) → is_some o ≡ true → (p : Place) × (o ≡ Some p)
on_placed None h = absurd (true_false false h refl)
on_placed (Some p) h = (p, refl)

pub placed : (spec : Parts) (c : ConfId) (a : ℕ) → is_on spec c a ≡ true → (p : Place) × (place_of spec c a ≡ Some p)
placed spec c a h = on_placed (place_of spec c a) h

-- Configuration `c` exists, and application `a` has place `p` in it.
pub record IsThere (spec : Parts) (c : ConfId) (a : ℕ) (p : Place) : Type 0 where
  pub conf : Conf
  pub there : slice_get spec.confs c.0 ≡ Some conf
  pub place : place_in conf a ≡ Some p

there_in : (spec : Parts) (c : ConfId) (a : ℕ) (p : Place) (o : Option Conf) → slice_get spec.confs c.0 ≡ o → option_and_then (λ (conf : Conf). place_in conf a) o ≡ Some p → IsThere spec c a p
there_in spec c a p None e h = cc
there_in spec c a p (Some conf) e h = record { conf = conf; there = e; place = h }

pub is_there : (spec : Parts) (c : ConfId) (a : ℕ) (p : Place) → place_of spec c a ≡ Some p → IsThere spec c a p
is_there spec c a p h = there_in spec c a p (slice_get spec.confs c.0) refl h

pub conf_known : (spec : Parts) (c : ConfId) (a : ℕ) (p : Place) → place_of spec c a ≡ Some p → c.0 < length spec.confs
conf_known spec c a p h = let t = is_there spec c a p h in slice_get_within spec.confs c.0 t.conf t.there

pub app_known : (spec : Parts) → IsSpec spec → (c : ConfId) (a : ℕ) (p : Place) → place_of spec c a ≡ Some p → a < length spec.apps
app_known spec sound c a p h =
    let t = is_there spec c a p h in
    let at = (sound.confs c.0 t.conf t.there).places a p t.place in
    slice_get_within spec.apps a at.app at.there

-- Lemmas that `is_env` decides whether an environment belongs to the specification.
value_of : (spec : Parts) (v : Env) (x : ℕ) (o : Option Factor) → slice_get spec.factors x ≡ o → has_value spec v x ≡ true → nat_lt (factor_in v x) (option_map_or (λ (factor : Factor). length factor.values) o 1) ≡ true
value_of spec v x o e h = rw e at h

few_factors : (spec : Parts) → IsSpec spec → (x : ℕ) (factor : Factor) → slice_get spec.factors x ≡ Some factor → x < 6
few_factors spec sound x factor e = let below = slice_get_within spec.factors x factor e in let few = sound.factors_count in omega arith

pub env_of_test : (spec : Parts) → IsSpec spec → (v : Env) → is_env spec v ≡ true → IsEnv spec v
env_of_test spec sound v h =
    let rest = and_right (nat_lt v.up (2 ^ length spec.procs)) _ h in
    let width : length v.factors ≡ 6 = equal (length v.factors) 6 (and_left (length v.factors == 6) _ rest) in
    let each = all_at (has_value spec v) 6 (and_right (length v.factors == 6) _ rest) in
    record {
      up = below v.up (2 ^ length spec.procs) (and_left (nat_lt v.up (2 ^ length spec.procs)) _ h);
      width = width;
      values = λ x factor e. below (factor_in v x) (length factor.values) (value_of spec v x (Some factor) e (each x (few_factors spec sound x factor e)));
      rest = λ x past. elim (low_or_high x 6) [
        | inl low ↦ (let few = below (factor_in v x) 1 (value_of spec v x None (slice_get_past spec.factors x past) (each x low)) in omega arith)
        | inr high ↦ past_end v.factors x (rw width high)
      ];
    }
  where
    past_end : (xs : List ℕ) (x : ℕ) → length xs ≤ x → factor_in (record { up = 0; factors = xs }) x ≡ 0
    past_end [] x h = refl
    past_end (y ∷ ys) zero h = absurd (omega arith)
    past_end (y ∷ ys) (suc x) h = past_end ys x (omega arith)

pub same_env : (v w : Env) → is_same_env v w ≡ true → v ≡ w
same_env v w h = made v.up w.up v.factors w.factors (equal v.up w.up (and_left (v.up == w.up) _ h)) (texts v.factors w.factors (and_right (v.up == w.up) _ h))
  where
    made : (a b : ℕ) (xs ys : List ℕ) → a ≡ b → xs ≡ ys → ◌≡◌ {A = Env} (record { up = a; factors = xs }) (record { up = b; factors = ys })
    made a b xs ys e k = rw (e, k) refl

    texts : (xs ys : List ℕ) → bytes_eq xs ys ≡ true → xs ≡ ys
    texts xs ys e = (bytes_eq-Decides xs ys).0 e

not_not : (b : Bool) → not b ≡ false → b ≡ true
not_not true h = refl
not_not false h = absurd (true_false true refl h)

-- In each configuration of an accepted specification some application is on.
pub some_on : (spec : Parts) → Accepts spec → (c : ℕ) → c < length spec.confs → (a : ℕ) × (a < 8) × (is_on spec (conf_id c) a ≡ true)
some_on spec accepts c known = some_passes (is_on spec (conf_id c)) 8 (accepts.shaped (conf_id c) known).something_on

pub accepted_of : (spec : Parts) → IsSpec spec → Accepts spec → ((c : ConfId) → IsInTime spec c) → IsAcceptedPlan (plan_of spec)
accepted_of spec sound accepts timed = record {
  start_in = sound.start;
  choose_in = λ c v known. target_known (length spec.confs) (conf_id c) v spec.rules (λ k rule there. (sound.rules k rule there).to) known;
  runnable = λ c v known scope. accepts.runs (conf_id c) v known (belongs v scope) (and_right (is_env spec v) _ scope);
  stays = λ c v known scope. ap (λ (t : ConfId). t.0) (accepts.stays (conf_id c) v known (belongs v scope) (and_right (is_env spec v) _ scope));
  starts = ap (λ (t : ConfId). t.0) accepts.starts;
  lasts = λ c known. lasts c known;
  slow = λ k known. greatest_most (λ c. preparing_time spec (conf_id c) + initialising_time spec (conf_id c) + 1 + halting_time spec (conf_id c)) (length spec.confs) k known;
  bounded = λ i v known scope asked. bounded i v known scope asked;
  windowed = λ i j t given. bound_each (λ frames. frames + 1 ≤ spec.window) i j t spec.bounds accepts.windowed given;
  tells = λ v w same. same_env v w (not_not (is_same_env v w) same);
}
  where
    belongs : (v : Env) → (is_env spec v && in_scope spec v) ≡ true → IsEnv spec v
    belongs v scope = env_of_test spec sound v (and_left (is_env spec v) _ scope)

    lasts : (c : ℕ) → c < length spec.confs → 1 ≤ initialising_time spec (conf_id c)
    lasts c known =
        let on = some_on spec accepts c known in
        let some = (timed (conf_id c)).init_least on.0 on.2 in
        let most = (timed (conf_id c)).initialises on.0 on.2 in
        omega arith

    bounded : (i : ℕ) (v : Env) → i < length spec.confs → (is_env spec v && in_scope spec v) ≡ true → ((choose spec (conf_id i) v).0 ≢ i) ⊎ (1 ≤ plans.plan_further (plan_of spec))
        → (t : ℕ) × (bound_in spec.bounds i (choose spec (conf_id i) v).0 ≡ Some t) × (plans.plan_least_bound (plan_of spec) i (choose spec (conf_id i) v).0 ≤ t)
    bounded i v known scope asked =
        let same = further_same spec.policy spec.changes in
        let target : IsTarget spec (conf_id i) (choose spec (conf_id i) v) = record { seen = v; belongs = belongs v scope; scope = and_right (is_env spec v) _ scope; chosen = refl } in
        let served = accepts.bounded (conf_id i) (choose spec (conf_id i) v) known target (elim asked [ inl away ↦ inl (λ e. away (sym e)) | inr some ↦ inr (rw same at some) ]) in
        (served.frames, served.given, rw same served.serves)
