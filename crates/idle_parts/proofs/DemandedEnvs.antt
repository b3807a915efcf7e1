-- Lemmas on `demanded_env`, the environment of a demand. If the demand applies to any environment in scope, then the
-- demand applies to `demanded_env`, and `demanded_env` is in scope.
use Rattle.std.proofs.Common.{◌≡◌, ◌∙◌, ℕ, zero, suc, ◌<◌, ◌≤◌, ◌^◌, ap, arith, length, refl, sym, List, [], ◌∷◌, Bool, true, false, subst}
use mathlib.Core.Logic.{inl, inr}
use Rattle.std.specs.Prelude.{◌&&◌, ◌==◌, not, slice_get, Some, bit_and}
use Rattle.std.specs.List.{list_all}
use Rattle.std.specs.Int.{bit_at}
use Rattle.std.proofs.lemmas.Nat.{and_le_r}
use Rattle.std.proofs.lemmas.Option.{slice_get_within}
use Rattle.scram_types.specs.Bits.{has_bit}
use Rattle.scram_types.specs.Specification.{Each, IsDemand, IsSpec, IsWant, Parts}
use Rattle.scram_types.specs.declared.rows.Env.{Env}
use Rattle.scram_types.specs.declared.demands.Demand.{Demand}
use Rattle.scram_types.specs.declared.specification.Factor.{Factor}
use Rattle.scram_types.specs.declared.specification.Want.{Want}
use Rattle.scram_types.proofs.BitSets.{bit_cases, bits_are, bits_lt, count_rises, has_bits, no_bit_past}
use Rattle.scram_types.proofs.Booleans.{and_left, and_right, and_true, by_bool, same_test, true_false}
use Rattle.scram_types.proofs.Items.{all_pass}
use Rattle.scram_types.proofs.Naturals.{at_most, at_most_test, equal, equal_test, low_or_high}
use Rattle.scram_types.proofs.Options.{same_some}
use Rattle.choice_table.specs.Choices.{all_up, has_wanted}
use Rattle.choice_table.specs.Demands.{all_down, applies_in}
use Rattle.choice_table.specs.Environments.{IsEnv, down_count, factor_in, in_scope, is_up_in}
use Rattle.choice_table.proofs.Members.{sets_by_members}
use Rattle.cube_cover.proofs.Bits.{has_and, has_none}
use Rattle.cube_cover.proofs.Scopes.{has_digits}
use Rattle.idle_parts.specs.Somewhere.{passes_somewhere}
use Rattle.idle_parts.specs.DemandedEnvs.{demanded_env, demanded_value}
use Rattle.idle_parts.proofs.Somewhere.{passes_found, passes_in}

-- Lemmas on the values of the factors in the environment of a demand.

value_at : (spec : Parts) (demand : Demand) (x : ℕ) → x < 6 → factor_in (demanded_env spec demand) x ≡ demanded_value demand.wants x
value_at spec demand zero h = refl
value_at spec demand (suc zero) h = refl
value_at spec demand (suc (suc zero)) h = refl
value_at spec demand (suc (suc (suc zero))) h = refl
value_at spec demand (suc (suc (suc (suc zero)))) h = refl
value_at spec demand (suc (suc (suc (suc (suc zero))))) h = refl
value_at spec demand (suc (suc (suc (suc (suc (suc x)))))) h = absurd (omega arith)

none_past : (spec : Parts) (demand : Demand) (x : ℕ) → 6 ≤ x → factor_in (demanded_env spec demand) x ≡ 0
none_past spec demand zero h = absurd (omega arith)
none_past spec demand (suc zero) h = absurd (omega arith)
none_past spec demand (suc (suc zero)) h = absurd (omega arith)
none_past spec demand (suc (suc (suc zero))) h = absurd (omega arith)
none_past spec demand (suc (suc (suc (suc zero)))) h = absurd (omega arith)
none_past spec demand (suc (suc (suc (suc (suc zero))))) h = absurd (omega arith)
none_past spec demand (suc (suc (suc (suc (suc (suc x)))))) h = refl

each_rest : {A : Type 0} (Fact : A → Type 0) (x : A) (xs : List A) → Each Fact (x ∷ xs) → Each Fact xs
each_rest {A} Fact x xs each = λ i y e. each (suc i) y e

-- The value of factor `x` that a demand requires, or 0 if it requires none, is the index of a value of the factor.

value_within : (factors : List Factor) (x : ℕ) (factor : Factor) → slice_get factors x ≡ Some factor → 0 < length factor.values
    → (wants : List Want) → Each (IsWant factors) wants → demanded_value wants x < length factor.values
value_within factors x factor there some [] each = some
value_within factors x factor there some (want ∷ wants) each = by_bool (want.factor.0 == x)
    (λ here.
    let is = each 0 want refl in
    let same : is.factor ≡ factor = same_some is.factor factor (sym is.there ∙ ap (slice_get factors) (equal want.factor.0 x here) ∙ there) in
    rw (here) (subst (λ (f : Factor). want.value < length f.values) same is.value))
    (λ other. rw (other) (value_within factors x factor there some wants (each_rest (IsWant factors) want wants each)))

value_past : (factors : List Factor) (x : ℕ) → length factors ≤ x → (wants : List Want) → Each (IsWant factors) wants → demanded_value wants x ≡ 0
value_past factors x past [] each = refl
value_past factors x past (want ∷ wants) each = by_bool (want.factor.0 == x)
    (λ here.
    let is = each 0 want refl in
    let inside = slice_get_within factors want.factor.0 is.factor is.there in
    let same = equal want.factor.0 x here in
    absurd (omega (arith, inside, same)))
    (λ other. rw (other) (value_past factors x past wants (each_rest (IsWant factors) want wants each)))

-- If some environment has each value that a demand requires, all requirements for one factor have the value of the
-- first requirement for that factor.
value_same : (v : Env) (wants : List Want) (i : ℕ) (want : Want) → list_all (has_wanted v) wants ≡ true → slice_get wants i ≡ Some want
    → demanded_value wants want.factor.0 ≡ want.value
value_same v [] i want all there = absurd (cc)
value_same v (first ∷ wants) zero want all there =
    let same : first ≡ want = same_some first want there in
    let here : (first.factor.0 == want.factor.0) ≡ true = equal_test _ _ (ap (λ (w : Want). w.factor.0) same) in
    rw (here) (ap (λ (w : Want). w.value) same)
value_same v (first ∷ wants) (suc i) want all there =
    let rest = value_same v wants i want (and_right (has_wanted v first) _ all) there in
    let last = wanted_is v wants i want (and_right (has_wanted v first) _ all) there in
    by_bool (first.factor.0 == want.factor.0)
    (λ here. rw (here) (sym (equal _ first.value (and_left (has_wanted v first) _ all)) ∙ ap (factor_in v) (equal _ _ here) ∙ last))
    (λ other. rw (other) rest)
  where
    wanted_is : (v : Env) (wants : List Want) (i : ℕ) (want : Want) → list_all (has_wanted v) wants ≡ true → slice_get wants i ≡ Some want → factor_in v want.factor.0 ≡ want.value
    wanted_is v [] i want all there = absurd (cc)
    wanted_is v (first ∷ wants) zero want all there =
        let same : first ≡ want = same_some first want there in
        subst (λ (w : Want). factor_in v w.factor.0 ≡ w.value) same (equal _ first.value (and_left (has_wanted v first) _ all))
    wanted_is v (first ∷ wants) (suc i) want all there = wanted_is v wants i want (and_right (has_wanted v first) _ all) there

-- Lemmas on the test `all_down`, which passes for a set if and only if each processor in the set is down.

down_by : (set p : ℕ) (v : Env) → all_down set v ≡ true → has_bit set p ≡ true → is_up_in v p ≡ false
down_by set p v none bit =
    let common : (has_bit set p && has_bit v.up p) ≡ false =
    sym (has_and set v.up p) ∙ ap (λ (n : ℕ). has_bit n p) (equal (bit_and set v.up) 0 none) ∙ has_none p in
    rw (bit) at common

all_down_by : (set : ℕ) (v : Env) → v.up < 256 → ((p : ℕ) → has_bit set p ≡ true → is_up_in v p ≡ false) → all_down set v ≡ true
all_down_by set v few each = equal_test (bit_and set v.up) 0
    (bits_are (bit_and set v.up) (λ p. false) 8 (let less = and_le_r set v.up in omega (arith, less, few))
    (λ p low.
    let none : has_bit (bit_and set v.up) p ≡ false = has_and set v.up p ∙ by_bool (has_bit set p) (λ bit. rw (bit) (each p bit)) (λ out. rw (out) refl) in
    elim (bit_cases (bit_and set v.up) p) [
      | inl clear ↦ clear
      | inr one ↦ true_false (has_bit (bit_and set v.up) p) (equal_test (bit_at (bit_and set v.up) p) 1 one) none
    ]))

module _ (spec : Parts) (made : IsSpec spec) (demand : Demand) (is : IsDemand spec.procs spec.apps spec.confs spec.factors demand) where
  abbrev spoken : Env
  spoken = demanded_env spec demand

  up_is : (p : ℕ) → p < length spec.procs → is_up_in spoken p ≡ not (has_bit demand.down p)
  up_is p low = has_bits (λ q. not (has_bit demand.down q)) (length spec.procs) p low

  few_up : spoken.up < 2 ^ length spec.procs
  few_up = bits_lt (λ q. not (has_bit demand.down q)) (length spec.procs)

  -- The environment of a demand belongs to the specification.
  pub spoken_belongs : IsEnv spec spoken
  spoken_belongs = record {
    up = few_up;
    width = refl;
    values = λ x factor there.
        (let inside = slice_get_within spec.factors x factor there in
        let few = made.factors_count in
        let some = (made.factors x factor there).count.enough in
        subst (λ (value : ℕ). value < length factor.values) (sym (value_at spec demand x (omega (arith, inside, few))))
        (value_within spec.factors x factor there (omega (arith, some)) demand.wants is.wants));
    rest = λ x past. elim (low_or_high x 6) [
      | inl low ↦ value_at spec demand x low ∙ value_past spec.factors x past demand.wants is.wants
      | inr high ↦ none_past spec demand x high
    ];
  }

  -- In the environment of a demand, the processors that the demand requires to be up are up, and the processors that
  -- the demand requires to be down are down.
  ups : all_up demand.up spoken ≡ true
  ups = (sets_by_members demand.up spoken).1 (λ p bit. elim (low_or_high p (length spec.procs)) [
    | inl low ↦ up_is p low ∙ ap not (is.apart p bit)
    | inr high ↦ true_false (has_bit demand.up p) bit (no_bit_past demand.up (length spec.procs) p is.up high)
  ])

  downs : all_down demand.down spoken ≡ true
  downs = all_down_by demand.down spoken (has_digits spec made spoken spoken_belongs).few
      (λ p bit. elim (low_or_high p (length spec.procs)) [
        | inl low ↦ up_is p low ∙ ap not bit
        | inr high ↦ no_bit_past spoken.up (length spec.procs) p few_up high
      ])

  module _ (v : Env) (scope : in_scope spec v ≡ true) (speaks : applies_in demand v ≡ true) where
    all_wanted : list_all (has_wanted v) demand.wants ≡ true
    all_wanted = and_left (list_all (has_wanted v) demand.wants) _ (and_left (list_all (has_wanted v) demand.wants && all_up demand.up v) _ speaks)

    all_are_down : all_down demand.down v ≡ true
    all_are_down = and_right (list_all (has_wanted v) demand.wants && all_up demand.up v) _ speaks

    wants_there : list_all (has_wanted spoken) demand.wants ≡ true
    wants_there = all_pass (has_wanted spoken) demand.wants (λ i want there.
        let known = is.wants i want there in
        let inside = slice_get_within spec.factors want.factor.0 known.factor known.there in
        let few = made.factors_count in
        equal_test _ want.value (value_at spec demand want.factor.0 (omega (arith, inside, few)) ∙ value_same v demand.wants i want all_wanted there))

    -- If a demand applies to an environment, it applies to the environment of the demand.
    pub spoken_speaks : applies_in demand spoken ≡ true
    spoken_speaks =
        and_true (list_all (has_wanted spoken) demand.wants && all_up demand.up spoken) _
        (and_true (list_all (has_wanted spoken) demand.wants) _ wants_there ups) downs

    fewer_down : down_count spec spoken ≤ down_count spec v
    fewer_down = elim (low_or_high (down_count spec v) (down_count spec spoken)) [
      | inl more ↦
          (let found = count_rises (λ p. not (is_up_in v p)) (λ p. not (is_up_in spoken p)) (length spec.procs) more in
          let down : has_bit demand.down found.0 ≡ true = twice_not (has_bit demand.down found.0) (sym (ap not (up_is found.0 found.1)) ∙ found.3) in
          true_false (not (is_up_in v found.0)) (ap not (down_by demand.down found.0 v all_are_down down)) found.2)
      | inr less ↦ less
    ]
      where
        twice_not : (b : Bool) → not (not b) ≡ true → b ≡ true
        twice_not true h = refl
        twice_not false h = absurd (cc)

    -- If a demand applies to an environment in scope, the environment of the demand is in scope.
    pub spoken_in_scope : in_scope spec spoken ≡ true
    spoken_in_scope = at_most_test _ spec.halts (let most = at_most (down_count spec v) spec.halts scope in let fewer = fewer_down in omega (arith, most, fewer))

  -- A demand applies to some environment in scope if and only if the environment of the demand is in scope and the
  -- demand applies to that environment.
  pub spoken_somewhere : passes_somewhere spec (applies_in demand) ≡ (in_scope spec spoken && applies_in demand spoken)
  spoken_somewhere = same_test _ _
      (λ passes. let found = passes_found spec made (applies_in demand) passes in
      and_true (in_scope spec spoken) _ (spoken_in_scope found.v found.scope found.passes) (spoken_speaks found.v found.scope found.passes))
      (λ both. passes_in spec made (applies_in demand) spoken spoken_belongs
      (and_left (in_scope spec spoken) _ both) (and_right (in_scope spec spoken) _ both))
