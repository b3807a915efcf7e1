-- Lemmas on the first rule that fits, and on the shares into which the rules divide the environments in scope.
use Rattle.std.proofs.Common.{◌≡◌, ◌∙◌, ℕ, zero, suc, ◌+◌, ◌<◌, ◌≤◌, refl, ap, sym, arith, Bool, true, false, ◌&&◌, List, [], ◌∷◌, length, get_or}
use Rattle.std.specs.Prelude.{◌==◌, nat_le, nat_lt, Option, Some, None, if◌then◌else◌}
use Rattle.scram_types.specs.Searches.{first_below}
use Rattle.scram_types.specs.declared.rows.Env.{Env}
use Rattle.scram_types.specs.declared.ids.ConfId.{ConfId}
use Rattle.scram_types.specs.declared.specification.Choice.{Choice}
use Rattle.scram_types.specs.Specification.{IsSpec, Parts}
use Rattle.scram_types.proofs.BitSets.{count_same}
use Rattle.scram_types.proofs.Booleans.{by_bool, and_left, and_right, and_true, same_test, both_false}
use Rattle.scram_types.proofs.Naturals.{above_test, at_most, at_most_test, below_test, equal, equal_test}
use Rattle.scram_types.proofs.Options.{same_some}
use Rattle.scram_types.proofs.Searches.{first_found, none_below}
use Rattle.choice_table.specs.Choices.{rule_fits}
use Rattle.choice_table.specs.Environments.{IsEnv, in_scope}
use Rattle.choice_table.specs.Numbering.{environments, is_number_in_scope, number_of, numbered}
use Rattle.choice_table.proofs.Inverses.{env_of-number_of, is_env, number_below, number_of-numbered}
use Rattle.cube_cover.specs.declared.cubes.Cube.{Cube}
use Rattle.cube_cover.specs.declared.shares.Share.{Share}
use Rattle.cube_cover.specs.Covers.{IsLeastEnv}
use Rattle.cube_cover.specs.Cubes.{Agree, IsInScope, holders, is_in, once}
use Rattle.cube_cover.specs.Shares.{HoldsRest, IsShare, SharesAddUp, first_rule, first_where, is_ruled_by}
use Rattle.cube_cover.specs.Sizes.{count_where, passes_at}
use Rattle.cube_cover.proofs.Counts.{sum_parted}
use Rattle.cube_cover.proofs.Holders.{held_in}
use Rattle.cube_cover.proofs.Unions.{least_same}

-- Lemmas on the first rule that fits.

pub ruled_below : (rules : List Choice) (c : ConfId) (v : Env) → first_rule rules c v < suc (length rules)
ruled_below [] c v = omega arith
ruled_below (rule ∷ rules) c v = pick (rule_fits c v rule) (ruled_below rules c v)
  where
    pick : (b : Bool) → first_rule rules c v < suc (length rules) → (if b then 0 else suc (first_rule rules c v)) < suc (suc (length rules))
    pick true h = omega arith
    pick false h = omega arith

-- If no rule before rule `k` fits but rule `k` does, rule `k` is the first that fits. If rule `k` does not fit
-- either, no rule up to `k` fits.
pub first_fit : (rules : List Choice) (c : ConfId) (v : Env) (k : ℕ) (d : Choice) → k < length rules → k ≤ first_rule rules c v
    → (rule_fits c v (get_or rules k d) ≡ true → first_rule rules c v ≡ k) × (rule_fits c v (get_or rules k d) ≡ false → k < first_rule rules c v)
first_fit [] c v k d low before = absurd (omega arith)
first_fit (rule ∷ rules) c v zero d low before = (λ fits. rw (fits) refl, λ fails. rw (fails) (omega arith))
first_fit (rule ∷ rules) c v (suc k) d low before = by_bool (rule_fits c v rule)
    (λ fits. let none = rw (fits) at before in absurd (omega (arith, none)))
    (λ fails.
    let more = rw (fails) at before in
    let rest = first_fit rules c v k d (omega arith) (omega (arith, more)) in
    (λ fits. rw (fails) (ap suc (rest.0 fits)), λ gone. rw (fails) (let less = rest.1 gone in omega (arith, less))))

module _ (rules : List Choice) (c : ConfId) (v : Env) (k : ℕ) (d : Choice) (low : k < length rules) where
  pub fits_first : (nat_le k (first_rule rules c v) && rule_fits c v (get_or rules k d)) ≡ (first_rule rules c v == k)
  fits_first = same_test _ _
      (λ both. equal_test _ k ((first_fit rules c v k d low (at_most k _ (and_left (nat_le k (first_rule rules c v)) _ both))).0 (and_right (nat_le k (first_rule rules c v)) _ both)))
      (λ here.
      let same = equal (first_rule rules c v) k here in
      let parts = first_fit rules c v k d low (omega arith) in
      and_true (nat_le k (first_rule rules c v)) _ (at_most_test k _ (omega arith))
      (by_bool (rule_fits c v (get_or rules k d)) (λ fits. fits) (λ fails. let less = parts.1 fails in absurd (omega arith))))

  pub rest_first : (if rule_fits c v (get_or rules k d) then 0 else once (nat_le k (first_rule rules c v))) ≡ once (nat_le (k + 1) (first_rule rules c v))
  rest_first = by_bool (nat_le k (first_rule rules c v))
      (λ before.
      let parts = first_fit rules c v k d low (at_most k _ before) in
      by_bool (rule_fits c v (get_or rules k d))
      (λ fits. let same = parts.0 fits in rw (fits, above_test (k + 1) (first_rule rules c v) (omega arith)) refl)
      (λ fails. let less = parts.1 fails in rw (fails, before, at_most_test (k + 1) (first_rule rules c v) (omega arith)) refl))
      (λ passed.
      let past : nat_le (k + 1) (first_rule rules c v) ≡ false = by_bool (nat_le (k + 1) (first_rule rules c v))
      (λ more. let less = at_most (k + 1) _ more in let clash : true ≡ false = sym (at_most_test k (first_rule rules c v) (omega arith)) ∙ passed in absurd (cc)) (λ e. e) in
      rw (passed, past) (none (rule_fits c v (get_or rules k d))))
    where
      none : (b : Bool) → (if b then 0 else once false) ≡ once false
      none true = refl
      none false = refl

pub last_rule : (rules : List Choice) (c : ConfId) (v : Env) (k : ℕ) → length rules ≤ k → k ≤ length rules → nat_le k (first_rule rules c v) ≡ (first_rule rules c v == k)
last_rule rules c v k past low = let most = ruled_below rules c v in same_test _ _
    (λ up. equal_test (first_rule rules c v) k (let least = at_most k _ up in omega arith))
    (λ here. let same = equal (first_rule rules c v) k here in at_most_test k _ (omega arith))

-- The shares of a configuration add up to the number of environments in scope.
pub shares_sum : SharesAddUp
shares_sum spec c = sum_parted (is_number_in_scope spec) (λ n. first_rule spec.rules c (numbered spec n)) (environments spec) (suc (length spec.rules))
    (λ n less. ruled_below spec.rules c (numbered spec n))

-- Two tests that agree on all environments in scope have the same count.
pub count_where_same : (spec : Parts) → IsSpec spec → (s t : Env → Bool) → ((v : Env) → IsInScope spec v → s v ≡ t v) → count_where spec s ≡ count_where spec t
count_where_same spec made s t same = count_same (passes_at spec s) (passes_at spec t) (environments spec) (λ n less. by_bool (is_number_in_scope spec n)
    (λ scope. rw (scope) (same (numbered spec n) (record { belongs = is_env spec made.factors made.factors_count n less; scope = scope })))
    (λ out. rw (out) refl))

-- If an environment satisfies `IsLeastEnv`, it is the environment that `first_where` finds by number.

told_if : {A : Type 0} (b : Bool) (x : A) → b ≡ true → (if b then Some x else None) ≡ Some x
told_if b x e = rw e refl

none_if : {A : Type 0} (b : Bool) (x : A) → b ≡ false → (if b then Some x else None) ≡ None
none_if b x e = rw e refl

module _ (spec : Parts) (made : IsSpec spec) (test : Env → Bool) where
  abbrev found_at : ℕ → Option Env
  found_at n = if passes_at spec test n then Some (numbered spec n) else None

  belongs_numbered : (n : ℕ) → n < environments spec → IsEnv spec (numbered spec n)
  belongs_numbered n h = is_env spec made.factors made.factors_count n h

  numbered_number : (v : Env) → IsEnv spec v → numbered spec (number_of spec v) ≡ v
  numbered_number v belongs =
      let inside = number_below spec made.factors made.factors_count v belongs in
      let back = env_of-number_of spec made.factors made.factors_count v belongs in
      same_some (numbered spec (number_of spec v)) v (rw (below_test (number_of spec v) (environments spec) inside) at back)

  pub first_is_least : (o : Option Env) → IsLeastEnv spec test o → o ≡ first_where spec test
  first_is_least None none = sym (none_below found_at (environments spec) (λ n inside.
      none_if (passes_at spec test n) (numbered spec n)
      (both_false (is_number_in_scope spec n) (test (numbered spec n)) (λ scope. none (numbered spec n) (belongs_numbered n inside) scope))))
  first_is_least (Some v) least =
      let same = numbered_number v least.belongs in
      let inside = number_below spec made.factors made.factors_count v least.belongs in
      let before : first_below found_at (number_of spec v) ≡ None = none_below found_at (number_of spec v) (λ n less.
      none_if (passes_at spec test n) (numbered spec n)
      (both_false (is_number_in_scope spec n) (test (numbered spec n)) (λ scope. by_bool (test (numbered spec n))
      (λ passes. absurd (let low : n < environments spec = omega arith in
      let first = least.least (numbered spec n) (belongs_numbered n low) scope passes in
      let here = number_of-numbered spec made.factors made.factors_count n low in omega arith))
      (λ fails. fails)))) in
      let passes = and_true (is_number_in_scope spec (number_of spec v)) _ (ap (in_scope spec) same ∙ least.scope) (ap test same ∙ least.passes) in
      let here : found_at (number_of spec v) ≡ Some v = told_if _ (numbered spec (number_of spec v)) passes ∙ ap Some same in
      sym (first_found found_at (environments spec) (number_of spec v) v before here inside)

-- If two tests agree on all environments in scope, a share of one test is also a share of the other test.
pub share_same : (spec : Parts) → IsSpec spec → (s t : Env → Bool) (share : Share) → Agree spec s t → IsShare spec s share → IsShare spec t share
share_same spec made s t share same is = record {
  count = is.count ∙ count_where_same spec made s t same;
  first = least_same spec s t share.first same is.first;
}

positive : (b : Bool) → nat_lt 0 (once b) ≡ b
positive true = refl
positive false = refl

module _ (spec : Parts) (made : IsSpec spec) (c : ConfId) (k : ℕ) (cubes : List Cube) (held : (v : Env) → IsInScope spec v → holders cubes v ≡ once (nat_le k (first_rule spec.rules c v))) where
  held_from : (v : Env) → IsInScope spec v → is_in cubes v ≡ nat_le k (first_rule spec.rules c v)
  held_from v scope = held_in cubes v ∙ ap (nat_lt 0) (held v scope) ∙ positive (nat_le k (first_rule spec.rules c v))

  module _ (d : Choice) (low : k < length spec.rules) (share : Share) where
    -- The environments that rule `k` takes from the remaining cubes are its share.
    pub rule_share : IsShare spec (λ v. is_in cubes v && rule_fits c v (get_or spec.rules k d)) share → IsShare spec (is_ruled_by spec c k) share
    rule_share is = share_same spec made (λ v. is_in cubes v && rule_fits c v (get_or spec.rules k d)) (is_ruled_by spec c k) share
        (λ v scope. ap (λ (b : Bool). b && rule_fits c v (get_or spec.rules k d)) (held_from v scope) ∙ fits_first spec.rules c v k d low) is

    -- The cubes that remain after rule `k` hold the environments that no rule up to `k` fits.
    pub rule_rest : (rest : List Cube) → HoldsRest spec c (get_or spec.rules k d) cubes rest → (v : Env) → IsInScope spec v → holders rest v ≡ once (nat_le (k + 1) (first_rule spec.rules c v))
    rule_rest rest is v scope =
        is v scope ∙ ap (λ (n : ℕ). if rule_fits c v (get_or spec.rules k d) then 0 else n) (held v scope) ∙ rest_first spec.rules c v k d low

  -- The share of the cubes that remain after the last rule is the share of the environments that no rule fits.
  pub last_share : (share : Share) → length spec.rules ≤ k → k ≤ length spec.rules → IsShare spec (is_in cubes) share → IsShare spec (is_ruled_by spec c k) share
  last_share share past low is = share_same spec made (is_in cubes) (is_ruled_by spec c k) share
      (λ v scope. held_from v scope ∙ last_rule spec.rules c v k past low) is
