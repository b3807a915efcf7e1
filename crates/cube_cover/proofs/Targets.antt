-- Lemmas on the targets that are chosen in the regions, and on the cover, which is built target by target.
use Rattle.std.proofs.Common.{◌≡◌, ◌∙◌, ℕ, zero, suc, ◌+◌, ◌*◌, ◌-◌, ◌^◌, ◌<◌, ◌≤◌, refl, ap, sym, subst, arith, Bool, true, false, not, ◌&&◌, ◌||◌, ◌⊎◌, List, [], ◌∷◌, length}
use mathlib.Core.Logic.{inl, inr}
use Rattle.std.specs.Prelude.{◌==◌, slice_get, Option, Some, None, is_some, if◌then◌else◌}
use Rattle.std.specs.Int.{bit_at}
use Rattle.std.specs.List.{list_any}
use Rattle.std.proofs.Math.Bool.{or-false, or-true}
use Rattle.std.proofs.lemmas.Nat.Bits.{bit_at_cat_high, bit_at_cat_low}
use Rattle.scram_types.specs.declared.ids.ConfId.{ConfId}
use Rattle.scram_types.specs.declared.rows.Env.{Env}
use Rattle.scram_types.specs.declared.specification.Choice.{Choice}
use Rattle.scram_types.specs.Bits.{has_bit}
use Rattle.scram_types.specs.Lookups.{conf_id}
use Rattle.scram_types.specs.Searches.{any_below}
use Rattle.scram_types.specs.Specification.{IsSpec, Parts}
use Rattle.scram_types.proofs.BitSets.{no_bit, twice}
use Rattle.scram_types.proofs.Booleans.{by_bool, true_false}
use Rattle.scram_types.proofs.Equality.{same_conf}
use Rattle.scram_types.proofs.Naturals.{below_or_at, equal, equal_test, low_or_high, plus_one}
use Rattle.choice_table.specs.Choices.{IsTarget, choose, has_rule, is_runnable, rule_fits, target_among}
use Rattle.cube_cover.specs.declared.answers.Cover.{Cover}
use Rattle.cube_cover.specs.declared.cubes.Cube.{Cube}
use Rattle.cube_cover.specs.declared.regions.Region.{Region}
use Rattle.cube_cover.specs.Covers.{IsCover, IsLeastEnv, cannot_run, earlier_env, is_left_again, is_unfit}
use Rattle.cube_cover.specs.Cubes.{Agree, IsSplit, holds, is_in}
use Rattle.cube_cover.specs.Findings.{is_chosen_at, is_left_at, is_stuck_at}
use Rattle.cube_cover.specs.Regions.{AreAll, AreRegions, HoldsMarked, MarksMore, is_ruled}
use Rattle.cube_cover.proofs.Holders.{split_beyond}
use Rattle.cube_cover.proofs.Unions.{least_either, least_same}

-- The configuration that the table chooses exists.

pick_inside : (n : ℕ) (first : Bool) (x y : ConfId) → x.0 < n → y.0 < n → (if first then x else y).0 < n
pick_inside n true x y a b = a
pick_inside n false x y a b = b

target_inside : (n : ℕ) (rules : List Choice) (c : ConfId) (v : Env) → ((k : ℕ) (rule : Choice) → slice_get rules k ≡ Some rule → rule.to.0 < n) → c.0 < n
    → (target_among rules c v).0 < n
target_inside n [] c v inside known = known
target_inside n (rule ∷ rules) c v inside known =
    pick_inside n (rule_fits c v rule) rule.to (target_among rules c v) (inside 0 rule refl) (target_inside n rules c v (λ k r there. inside (suc k) r there) known)

pub choose_inside : (spec : Parts) → IsSpec spec → (c : ConfId) (v : Env) → c.0 < length spec.confs → (choose spec c v).0 < length spec.confs
choose_inside spec made c v known = target_inside (length spec.confs) spec.rules c v (λ k rule there. (made.rules k rule there).to) known

-- The target of the first rule that fits, or configuration `c` itself if no rule fits, passes a test if and only if
-- the chosen target passes the test.

ruled_or_own : (rules : List Choice) (c : ConfId) (passes : ℕ → Bool) (v : Env) → (is_ruled rules c passes v || (not (list_any (rule_fits c v) rules) && passes c.0)) ≡ passes (target_among rules c v).0
unfolding is_ruled
ruled_or_own [] c passes v = refl
ruled_or_own (rule ∷ rules) c passes v = by_bool (rule_fits c v rule)
    (λ t. rw (t) (or-false (passes rule.to.0)))
    (λ f. rw (f) (ruled_or_own rules c passes v))

ruled_alone : (rules : List Choice) (c : ConfId) (passes : ℕ → Bool) (v : Env) → passes c.0 ≡ false → is_ruled rules c passes v ≡ passes (target_among rules c v).0
ruled_alone rules c passes v fails =
    drop_own (is_ruled rules c passes v) (not (list_any (rule_fits c v) rules)) (passes c.0) fails ∙ ruled_or_own rules c passes v
  where
    drop_own : (a n p : Bool) → p ≡ false → a ≡ (a || (n && p))
    drop_own true n p e = refl
    drop_own false true p e = sym e
    drop_own false false p e = refl

-- Lemmas on all regions of configuration `i`.

pub all_chosen : (spec : Parts) (i : ConfId) (cubes unruled : List Cube) (ruled all : List Region) → Agree spec (is_in cubes) (λ v. true)
    → AreRegions spec i cubes ruled unruled → MarksMore ruled all unruled i → AreAll spec i all
all_chosen spec i cubes unruled ruled all whole found more passes v scope =
    more passes v
    ∙ ap (λ (b : Bool). b || (is_in unruled v && passes i.0)) (found.targets passes v scope ∙ ap (λ (b : Bool). b && is_ruled spec.rules i passes v) (whole v scope))
    ∙ ap (λ (b : Bool). is_ruled spec.rules i passes v || (b && passes i.0)) (found.rest v scope ∙ ap (λ (b : Bool). b && not (has_rule spec i v)) (whole v scope))
    ∙ ruled_or_own spec.rules i passes v

pub unfit_rest : (spec : Parts) (i : ConfId) (cubes unruled : List Cube) (ruled : List Region) → Agree spec (is_in cubes) (λ v. true)
    → AreRegions spec i cubes ruled unruled → Agree spec (is_in unruled) (λ v. not (has_rule spec i v))
unfit_rest spec i cubes unruled ruled whole found v scope = found.rest v scope ∙ ap (λ (b : Bool). b && not (has_rule spec i v)) (whole v scope)

-- Lemmas on one target `t`.

module _ (spec : Parts) (i : ConfId) (t : ℕ) where
  pub chosen_cubes : (regions : List Region) (cubes : List Cube) → AreAll spec i regions → HoldsMarked regions (λ j. j == t) cubes → Agree spec (is_in cubes) (is_chosen_at spec i t)
  chosen_cubes regions cubes all picked v scope = picked v ∙ all (λ j. j == t) v scope

  pub chosen_only : (cubes : List Cube) (o : Option Env) → Agree spec (is_in cubes) (is_chosen_at spec i t) → IsLeastEnv spec (is_in cubes) o → is_some o ≡ true → IsTarget spec i (conf_id t)
  chosen_only cubes None at least some = absurd (cc)
  chosen_only cubes (Some v) at least some = record {
    seen = v;
    belongs = least.belongs;
    scope = least.scope;
    chosen = same_conf (choose spec i v) (conf_id t) (equal (choose spec i v).0 t (sym (at v (record { belongs = least.belongs; scope = least.scope })) ∙ least.passes));
  }

  pub chosen_all : (cubes : List Cube) (o : Option Env) → Agree spec (is_in cubes) (is_chosen_at spec i t) → IsLeastEnv spec (is_in cubes) o → IsTarget spec i (conf_id t) → is_some o ≡ true
  chosen_all cubes (Some v) at least target = refl
  chosen_all cubes None at least target =
      let test : is_chosen_at spec i t target.seen ≡ true = equal_test (choose spec i target.seen).0 t (ap (λ (c : ConfId). c.0) target.chosen) in
      let held = at target.seen (record { belongs = target.belongs; scope = target.scope }) ∙ test in
      true_false (is_in cubes target.seen) held (least target.seen target.belongs target.scope)

  pub stuck_cubes : (cubes inside outside : List Cube) (by : Cube) → Agree spec (is_in cubes) (is_chosen_at spec i t) → Agree spec (holds by) (is_runnable spec (conf_id t))
      → IsSplit spec cubes by inside outside → Agree spec (is_in outside) (is_stuck_at spec i t)
  stuck_cubes cubes inside outside by at runs parts v scope =
      split_beyond spec cubes by inside outside parts v scope ∙ ap (λ (b : Bool). b && not (holds by v)) (at v scope) ∙ ap (λ (b : Bool). is_chosen_at spec i t v && not b) (runs v scope)

  pub left_cubes : (cubes others unruled : List Cube) (ruled : List Region) → Agree spec (is_in cubes) (is_chosen_at spec i t) → AreRegions spec (conf_id t) cubes ruled unruled
      → HoldsMarked ruled (λ j. not (j == t)) others → Agree spec (is_in others) (is_left_at spec i t)
  left_cubes cubes others unruled ruled at found picked v scope =
      picked v ∙ found.targets (λ j. not (j == t)) v scope ∙ ap (λ (b : Bool). b && is_ruled spec.rules (conf_id t) (λ j. not (j == t)) v) (at v scope)
      ∙ ap (λ (b : Bool). is_chosen_at spec i t v && b) (ruled_alone spec.rules (conf_id t) (λ j. not (j == t)) v (ap not (equal_test t t refl)))

-- Lemmas on all targets.

any_equal : (f : ℕ → Bool) (x n : ℕ) → any_below (λ t. (x == t) && f t) n ≡ (any_below (λ t. x == t) n && f x)
any_equal f x zero = refl
any_equal f x (suc n) = by_bool (x == n)
    (λ e. let same = equal x n e in rw (any_equal f x n, e) (ap (λ (k : ℕ). (any_below (λ t. x == t) n && f x) || (true && f k)) (sym same) ∙ last (any_below (λ t. x == t) n) (f x)))
    (λ e. rw (any_equal f x n, e) (skip (any_below (λ t. x == t) n) (f x)))
  where
    last : (a b : Bool) → ((a && b) || (true && b)) ≡ ((a || true) && b)
    last true true = refl
    last true false = refl
    last false b = refl

    skip : (a b : Bool) → ((a && b) || (false && b)) ≡ ((a || false) && b)
    skip true true = refl
    skip true false = refl
    skip false b = refl

any_is : (x n : ℕ) → x < n → any_below (λ t. x == t) n ≡ true
any_is x zero low = absurd (omega arith)
any_is x (suc n) low = elim (below_or_at x n low) [
  | inl less ↦ rw (any_is x n less) refl
  | inr same ↦ rw (equal_test x n same) (or-true (any_below (λ t. x == t) n))
]

pub any_target : (f : ℕ → Bool) (x n : ℕ) → x < n → any_below (λ t. (x == t) && f t) n ≡ f x
any_target f x n low = any_equal f x n ∙ rw (any_is x n low) refl

pub stuck_somewhere : (spec : Parts) (made : IsSpec spec) (i : ConfId) → i.0 < length spec.confs → Agree spec (λ v. any_below (λ t. is_stuck_at spec i t v) (length spec.confs)) (cannot_run spec i)
stuck_somewhere spec made i known v scope =
    any_target (λ t. not (is_runnable spec (conf_id t) v)) (choose spec i v).0 (length spec.confs) (choose_inside spec made i v known)

pub left_somewhere : (spec : Parts) (made : IsSpec spec) (i : ConfId) → i.0 < length spec.confs → Agree spec (λ v. any_below (λ t. is_left_at spec i t v) (length spec.confs)) (is_left_again spec i)
left_somewhere spec made i known v scope =
    any_target (λ t. not ((choose spec (conf_id t) v).0 == t)) (choose spec i v).0 (length spec.confs) (choose_inside spec made i v known)

pub least_more : (spec : Parts) (at : ℕ → Env → Bool) (t : ℕ) (before found after : Option Env) → IsLeastEnv spec (λ v. any_below (λ k. at k v) t) before → IsLeastEnv spec (at t) found
    → after ≡ earlier_env spec before found → IsLeastEnv spec (λ v. any_below (λ k. at k v) (t + 1)) after
least_more spec at t before found after so_far here is =
    least_same spec (λ v. any_below (λ k. at k v) t || at t v) _ after (λ v scope. ap (any_below (λ k. at k v)) (plus_one t))
    (subst (IsLeastEnv spec (λ v. any_below (λ k. at k v) t || at t v)) (sym is) (least_either spec (λ v. any_below (λ k. at k v) t) (at t) before found so_far here))

-- Lemmas on the set of targets, built up target by target.

pub record HasTargetsBelow (spec : Parts) (i : ConfId) (t set : ℕ) : Type 0 where
  pub few : set < 2 ^ t
  pub only : (j : ℕ) → has_bit set j ≡ true → IsTarget spec i (conf_id j)
  pub all : (j : ℕ) → j < t → IsTarget spec i (conf_id j) → has_bit set j ≡ true

pub no_targets : (spec : Parts) (i : ConfId) → HasTargetsBelow spec i 0 0
no_targets spec i = record {
  few = omega arith;
  only = λ j bit. true_false (has_bit 0 j) bit (ap (λ (n : ℕ). n == 1) (no_bit 0 0 j (omega arith) (omega arith)));
  all = λ j low target. absurd (omega arith);
}

module _ (spec : Parts) (i : ConfId) (t set : ℕ) (before : HasTargetsBelow spec i t set) where
  joined : set + 2 ^ t ≡ 1 * 2 ^ t + set
  joined = omega arith

  bit_below : (j : ℕ) → j < t → has_bit (set + 2 ^ t) j ≡ has_bit set j
  bit_below j low = ap (λ (n : ℕ). has_bit n j) joined ∙ ap (λ (n : ℕ). n == 1) (bit_at_cat_low 1 t set j low)

  bit_there : has_bit (set + 2 ^ t) t ≡ true
  bit_there = let none : t - t ≡ 0 = omega arith in ap (λ (n : ℕ). has_bit n t) joined ∙ ap (λ (n : ℕ). n == 1) (bit_at_cat_high 1 t set t before.few (omega arith) ∙ ap (bit_at 1) none)

  more_few : set + 2 ^ t < 2 ^ (t + 1)
  more_few = let both = twice t in let few = before.few in let e = ap (λ (n : ℕ). 2 ^ n) (plus_one t) in omega arith

  same_set : set ≡ set + 0
  same_set = omega arith

  low_same_high : (j : ℕ) → (j < t) ⊎ ((j ≡ t) ⊎ (t + 1 ≤ j))
  low_same_high j = elim (low_or_high j t) [
    | inl low ↦ inl low
    | inr high ↦ elim (low_or_high j (t + 1)) [ inl last ↦ inr (inl (omega arith)) | inr past ↦ inr (inr past) ]
  ]

  pub targets_more : (chosen : Bool) → (chosen ≡ true → IsTarget spec i (conf_id t)) → (IsTarget spec i (conf_id t) → chosen ≡ true)
      → HasTargetsBelow spec i (t + 1) (set + (if chosen then 2 ^ t else 0))
  targets_more true only all = record {
    few = more_few;
    only = λ j bit. elim (low_same_high j) [
      | inl low ↦ before.only j (sym (bit_below j low) ∙ bit)
      | inr (inl same) ↦ subst (λ (k : ℕ). IsTarget spec i (conf_id k)) (sym same) (only refl)
      | inr (inr high) ↦ true_false (has_bit (set + 2 ^ t) j) bit (ap (λ (n : ℕ). n == 1) (no_bit (set + 2 ^ t) (t + 1) j more_few high))
    ];
    all = λ j low target. elim (below_or_at j t (omega arith)) [
      | inl less ↦ bit_below j less ∙ before.all j less target
      | inr same ↦ ap (has_bit (set + 2 ^ t)) same ∙ bit_there
    ];
  }
  targets_more false only all = record {
    few = (let both = twice t in let few = before.few in let e = ap (λ (n : ℕ). 2 ^ n) (plus_one t) in omega arith);
    only = λ j bit. before.only j (ap (λ (n : ℕ). has_bit n j) same_set ∙ bit);
    all = λ j low target. elim (below_or_at j t (omega arith)) [
      | inl less ↦ ap (λ (n : ℕ). has_bit n j) (sym same_set) ∙ before.all j less target
      | inr same ↦ (let clash : true ≡ false = sym (all (subst (λ (k : ℕ). IsTarget spec i (conf_id k)) same target)) in absurd (cc))
    ];
  }

pub whole_cover : (spec : Parts) → IsSpec spec → (i : ConfId) → i.0 < length spec.confs → (t : ℕ) (cover : Cover) → t ≡ length spec.confs → HasTargetsBelow spec i t cover.targets
    → IsLeastEnv spec (is_unfit spec i) cover.unfit → IsLeastEnv spec (λ v. any_below (λ k. is_stuck_at spec i k v) t) cover.not_runnable
    → IsLeastEnv spec (λ v. any_below (λ k. is_left_at spec i k v) t) cover.unsettled → IsCover spec i cover
whole_cover spec made i known t cover end targets unfit stuck left = record {
  few = subst (λ (n : ℕ). cover.targets < 2 ^ n) end targets.few;
  only = λ j bit. subst (IsTarget spec i) (same_conf (conf_id j.0) j refl) (targets.only j.0 bit);
  all = λ j target.
      (let inside : j.0 < length spec.confs = subst (λ (k : ConfId). k.0 < length spec.confs) target.chosen (choose_inside spec made i target.seen known) in
      targets.all j.0 (subst (λ (n : ℕ). j.0 < n) (sym end) inside) (subst (IsTarget spec i) (same_conf j (conf_id j.0) refl) target));
  unfit = unfit;
  not_runnable = least_same spec (λ v. any_below (λ k. is_stuck_at spec i k v) t) (cannot_run spec i) cover.not_runnable
      (λ v scope. ap (any_below (λ k. is_stuck_at spec i k v)) end ∙ stuck_somewhere spec made i known v scope) stuck;
  unsettled = least_same spec (λ v. any_below (λ k. is_left_at spec i k v) t) (is_left_again spec i) cover.unsettled
      (λ v scope. ap (any_below (λ k. is_left_at spec i k v)) end ∙ left_somewhere spec made i known v scope) left;
}
