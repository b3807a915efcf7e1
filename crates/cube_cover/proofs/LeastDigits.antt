-- No environment that a cube holds has a smaller number than the environment with the smallest open digits of the
-- cube.
use Rattle.std.proofs.Common.{◌≡◌, ◌≢◌, ◌∙◌, ℕ, zero, suc, ◌+◌, ◌*◌, ◌-◌, ◌^◌, ◌<◌, ◌≤◌, refl, ap, sym, subst, arith, Bool, true, false, not, ◌||◌, List, [], ◌∷◌, length}
use mathlib.Core.Logic.{inl, inr}
use Rattle.std.specs.Prelude.{◌==◌, slice_index, nat_lt, if◌then◌else◌}
use Rattle.std.proofs.Math.Nat.{pow-le-pow_right}
use Rattle.std.proofs.lemmas.Nat.{mul-le}
use Rattle.std.proofs.lemmas.Option.{slice_get_within}
use Rattle.scram_types.specs.declared.rows.Env.{Env}
use Rattle.scram_types.specs.declared.specification.Factor.{Factor}
use Rattle.scram_types.specs.Bits.{bits_below, count_below, has_bit}
use Rattle.scram_types.specs.Specification.{IsSpec, Parts}
use Rattle.scram_types.proofs.BitSets.{bits_lt, has_bits, no_bit}
use Rattle.scram_types.proofs.Booleans.{by_bool, or_right, true_false}
use Rattle.scram_types.proofs.Naturals.{at_most, at_most_test, below, below_test, equal, equal_test, low_or_high}
use Rattle.scram_types.proofs.Searches.{all_each, each_all}
use Rattle.choice_table.specs.Environments.{IsEnv, down_count, factor_in, in_scope, is_up_in}
use Rattle.choice_table.specs.Numbering.{combinations, digits_of, down_set, number_of, value_count}
use Rattle.cube_cover.specs.declared.cubes.Cube.{Cube}
use Rattle.cube_cover.specs.Covers.{IsLeast}
use Rattle.cube_cover.specs.Cubes.{HasDigits, IsInScope, allows, digit_in, holds, is_digit, may_be_up}
use Rattle.cube_cover.specs.Leasts.{belongs, least_digit, least_env}
use Rattle.cube_cover.proofs.Closed.{digit_factor, digit_processor}
use Rattle.cube_cover.proofs.Scopes.{has_digits, is_digit_there}

-- Lemmas on sums that grow with their summands.

more_or_same : (a b : Bool) (m : ℕ) → (a ≡ true → b ≡ true) → (if a then m else 0) ≤ (if b then m else 0)
more_or_same true b m h = rw (h refl) (omega arith)
more_or_same false b m h = omega arith

bits_grow : (s t : ℕ → Bool) (n : ℕ) → ((p : ℕ) → p < n → s p ≡ true → t p ≡ true) → bits_below s n ≤ bits_below t n
bits_grow s t zero h = omega arith
bits_grow s t (suc n) h =
    let before = bits_grow s t n (λ p low. h p (omega arith)) in
    let here = more_or_same (s n) (t n) (2 ^ n) (h n (omega arith)) in
    omega arith

count_grows : (s t : ℕ → Bool) (n : ℕ) → ((p : ℕ) → p < n → s p ≡ true → t p ≡ true) → count_below s n ≤ count_below t n
count_grows s t zero h = omega arith
count_grows s t (suc n) h =
    let before = count_grows s t n (λ p low. h p (omega arith)) in
    let here = more_or_same (s n) (t n) 1 (h n (omega arith)) in
    omega arith

digits_grow : (fs : List Factor) (as_ bs : List ℕ) → length as_ ≡ length bs → ((x : ℕ) → slice_index as_ x ≤ slice_index bs x) → digits_of fs as_ ≤ digits_of fs bs
digits_grow [] as_ bs same h = omega arith
digits_grow (f ∷ fs) [] [] same h = omega arith
digits_grow (f ∷ fs) [] (b ∷ bs) same h = omega arith
digits_grow (f ∷ fs) (a ∷ as_) [] same h = absurd (omega arith)
digits_grow (f ∷ fs) (a ∷ as_) (b ∷ bs) same h =
    let rest = digits_grow fs as_ bs (omega arith) (λ x. h (suc x)) in
    let first : a ≤ b = h 0 in
    let product = mul-le a (combinations fs) b (combinations fs) first (omega arith) in
    omega (arith, product, rest)

-- Lemmas on the smallest open digit of a place.

IsLeastDigit : Cube → ℕ → ℕ → Type 0
IsLeastDigit cube x d = (least_digit cube x ≤ d) × (has_bit cube.bits (4 * x + least_digit cube x) ≡ true)

not_there : (cube : Cube) (x d e : ℕ) → has_bit cube.bits (4 * x + d) ≡ true → has_bit cube.bits (4 * x + e) ≡ false → d ≢ e
not_there cube x d e there shut same = let clash : true ≡ false = sym there ∙ ap (λ (n : ℕ). has_bit cube.bits (4 * x + n)) same ∙ shut in absurd (cc)

least_open : (cube : Cube) (x d : ℕ) → d < 4 → has_bit cube.bits (4 * x + d) ≡ true → IsLeastDigit cube x d
unfolding IsLeastDigit least_digit
least_open cube x d low there = by_bool (has_bit cube.bits (4 * x + 0))
    (λ t. rw (t) (omega arith, t))
    (λ f. let after = not_there cube x d 0 there f in by_bool (has_bit cube.bits (4 * x + 1))
    (λ t. rw (f, t) (omega arith, t))
    (λ g. let after_one = not_there cube x d 1 there g in by_bool (has_bit cube.bits (4 * x + 2))
    (λ t. rw (f, g, t) (omega arith, t))
    (λ h. let after_two = not_there cube x d 2 there h in let last : d ≡ 3 = omega arith in
    rw (f, g, h) (omega arith, ap (λ (n : ℕ). has_bit cube.bits (4 * x + n)) (sym last) ∙ there))))

least_small : (cube : Cube) (x : ℕ) → least_digit cube x < 4
unfolding least_digit
least_small cube x = small (has_bit cube.bits (4 * x + 0)) (has_bit cube.bits (4 * x + 1)) (has_bit cube.bits (4 * x + 2))
  where
    small : (a b c : Bool) → (if a then 0 else (if b then 1 else (if c then 2 else 3))) < 4
    small true b c = omega arith
    small false true c = omega arith
    small false false true = omega arith
    small false false false = omega arith

module _ (spec : Parts) (made : IsSpec spec) (cube : Cube) where
  factor_least : (x : ℕ) → x < 6 → factor_in (least_env spec cube) x ≡ least_digit cube x
  factor_least zero low = refl
  factor_least (suc zero) low = refl
  factor_least (suc (suc zero)) low = refl
  factor_least (suc (suc (suc zero))) low = refl
  factor_least (suc (suc (suc (suc zero)))) low = refl
  factor_least (suc (suc (suc (suc (suc zero))))) low = refl
  factor_least (suc (suc (suc (suc (suc (suc x)))))) low = absurd (omega arith)

  factor_past : (x : ℕ) → 6 ≤ x → factor_in (least_env spec cube) x ≡ 0
  factor_past zero high = absurd (omega arith)
  factor_past (suc zero) high = absurd (omega arith)
  factor_past (suc (suc zero)) high = absurd (omega arith)
  factor_past (suc (suc (suc zero))) high = absurd (omega arith)
  factor_past (suc (suc (suc (suc zero)))) high = absurd (omega arith)
  factor_past (suc (suc (suc (suc (suc zero))))) high = absurd (omega arith)
  factor_past (suc (suc (suc (suc (suc (suc x)))))) high = refl

  up_least : (p : ℕ) → p < length spec.procs → is_up_in (least_env spec cube) p ≡ may_be_up cube p
  up_least p low = has_bits (may_be_up cube) (length spec.procs) p low

  up_past : (p : ℕ) → length spec.procs ≤ p → is_up_in (least_env spec cube) p ≡ false
  up_past p high = ap (λ (n : ℕ). n == 1) (no_bit (least_env spec cube).up (length spec.procs) p (bits_lt (may_be_up cube) (length spec.procs)) high)

  bit_small : (b : Bool) → (if b then 0 else 1) < 4
  bit_small true = omega arith
  bit_small false = omega arith

  digit_small : (x : ℕ) → digit_in (least_env spec cube) x < 4
  digit_small x = elim (low_or_high x 6) [
    | inl low ↦ let e = digit_factor (least_env spec cube) x low ∙ factor_least x low in let small = least_small cube x in omega arith
    | inr high ↦
        let split : x ≡ 6 + (x - 6) = omega arith in
        let e = ap (digit_in (least_env spec cube)) split ∙ digit_processor (least_env spec cube) (x - 6) in
        let small = bit_small (is_up_in (least_env spec cube) (x - 6)) in
        omega arith
  ]

  least_few : (least_env spec cube).up < 256
  least_few =
      let few = made.procs_count.few in
      let room : 2 ^ length spec.procs ≤ 2 ^ 8 = pow-le-pow_right {n = 2} (omega arith) few in
      let up = bits_lt (may_be_up cube) (length spec.procs) in
      omega arith

  pub least_has_digits : HasDigits (least_env spec cube)
  least_has_digits = record { small = digit_small; past = factor_past; few = least_few }

  value_below : (d count : ℕ) → (d == 0 || nat_lt d count) ≡ true → 0 < count → d < count
  value_below d count test some = by_bool (d == 0)
      (λ t. let none = equal d 0 t in omega arith)
      (λ f. below d count (rw (f) at test))

  value_none : (d : ℕ) → (d == 0 || nat_lt d 0) ≡ true → d ≡ 0
  value_none d test = by_bool (d == 0) (λ t. equal d 0 t) (λ f. let low = below d 0 (rw (f) at test) in absurd (omega arith))

  test_at : belongs spec (least_env spec cube) ≡ true → (x : ℕ) → x < 6 → (factor_in (least_env spec cube) x == 0 || nat_lt (factor_in (least_env spec cube) x) (value_count spec.factors x)) ≡ true
  unfolding belongs is_digit
  test_at all x low = let here = all_each (λ y. is_digit spec y (factor_in (least_env spec cube) y)) 6 x all low in rw (below_test x 6 low) at here

  none_counted : (x : ℕ) → length spec.factors ≤ x → value_count spec.factors x ≡ 0
  none_counted x high = past spec.factors x high
    where
      past : (fs : List Factor) (x : ℕ) → length fs ≤ x → value_count fs x ≡ 0
      past [] x high = refl
      past (f ∷ fs) zero high = absurd (omega arith)
      past (f ∷ fs) (suc x) high = past fs x (omega arith)

  pub least_belongs : belongs spec (least_env spec cube) ≡ true → IsEnv spec (least_env spec cube)
  least_belongs all = record {
    up = bits_lt (may_be_up cube) (length spec.procs);
    width = refl;
    values = λ x factor there.
        (let inside = slice_get_within spec.factors x factor there in
        let few = made.factors_count in
        let some = (made.factors x factor there).count.enough in
        let test = rw (there) at (test_at all x (omega arith)) in
        value_below (factor_in (least_env spec cube) x) (length factor.values) test (omega arith));
    rest = λ x high. elim (low_or_high x 6) [
      | inl low ↦ value_none (factor_in (least_env spec cube) x) (rw (none_counted x high) at (test_at all x low))
      | inr past ↦ factor_past x past
    ];
  }

  -- No environment that the cube holds has a smaller number than the environment of smallest digits.

  module _ (v : Env) (known : IsEnv spec v) (held : holds cube v ≡ true) where
    digits : HasDigits v
    digits = has_digits spec made v known

    there : (x : ℕ) → x < 14 → has_bit cube.bits (4 * x + digit_in v x) ≡ true
    unfolding holds
    there x low = all_each (allows cube v) 14 x held low

    least_at : (x : ℕ) → x < 6 → IsLeastDigit cube x (digit_in v x)
    least_at x low = least_open cube x (digit_in v x) (digits.small x) (there x (omega arith))

    factors_below : (x : ℕ) → factor_in (least_env spec cube) x ≤ factor_in v x
    unfolding IsLeastDigit
    factors_below x = elim (low_or_high x 6) [
      | inl low ↦ let e = factor_least x low in let f = digit_factor v x low in let least = (least_at x low).0 in omega arith
      | inr high ↦ let e = factor_past x high in omega arith
    ]

    up_open : (p : ℕ) → p < 8 → is_up_in v p ≡ true → may_be_up cube p ≡ true
    up_open p low up =
        let e : digit_in v (6 + p) ≡ 0 = digit_processor v p ∙ rw (up) refl in
        ap (λ (d : ℕ). has_bit cube.bits (4 * (6 + p) + d)) (sym e) ∙ there (6 + p) (omega arith)

    few_procs : length spec.procs ≤ 8
    few_procs = made.procs_count.few

    down_always : (p : ℕ) → p < length spec.procs → not (may_be_up cube p) ≡ true → not (is_up_in v p) ≡ true
    down_always p low down = by_bool (is_up_in v p)
        (λ t. let few = few_procs in let up = up_open p (omega arith) t in absurd (let clash : true ≡ false = sym down ∙ ap not up in cc))
        (λ f. ap not f)

    pub few_always_down : count_below (λ p. not (may_be_up cube p)) (length spec.procs) ≤ down_count spec v
    few_always_down = count_grows (λ p. not (may_be_up cube p)) (λ p. not (is_up_in v p)) (length spec.procs) down_always

    pub up_both : (p : ℕ) → p < length spec.procs → is_up_in v p ≡ true → is_up_in (least_env spec cube) p ≡ true
    up_both p low up = let few = few_procs in up_least p low ∙ up_open p (omega arith) up

    down_both : (p : ℕ) → p < length spec.procs → not (is_up_in (least_env spec cube) p) ≡ true → not (is_up_in v p) ≡ true
    down_both p low down = by_bool (is_up_in v p)
        (λ t. let up = up_both p low t in absurd (let clash : true ≡ false = sym down ∙ ap not up in cc))
        (λ f. ap not f)

    pub least_in_scope : in_scope spec v ≡ true → in_scope spec (least_env spec cube) ≡ true
    least_in_scope scope =
        let fewer = count_grows (λ p. not (is_up_in (least_env spec cube) p)) (λ p. not (is_up_in v p)) (length spec.procs) down_both in
        let most = at_most (down_count spec v) spec.halts scope in
        at_most_test (down_count spec (least_env spec cube)) spec.halts (omega arith)

    pub least_number : number_of spec (least_env spec cube) ≤ number_of spec v
    least_number =
        let down = bits_grow (λ p. not (is_up_in (least_env spec cube) p)) (λ p. not (is_up_in v p)) (length spec.procs) down_both in
        let values = digits_grow spec.factors (least_env spec cube).factors v.factors (sym known.width) factors_below in
        let product = mul-le (down_set spec (least_env spec cube)) (combinations spec.factors) (down_set spec v) (combinations spec.factors) down (omega arith) in
        omega (arith, product, values)

    value_test : (x d e : ℕ) → x < 6 → d ≤ e → is_digit spec x e ≡ true → is_digit spec x d ≡ true
    unfolding is_digit
    value_test x d e low less test = rw (below_test x 6 low) (lesser (rw (below_test x 6 low) at test))
      where
        lesser : (e == 0 || nat_lt e (value_count spec.factors x)) ≡ true → (d == 0 || nat_lt d (value_count spec.factors x)) ≡ true
        lesser t = by_bool (e == 0)
            (λ z. let none = equal e 0 z in rw (equal_test d 0 (omega arith)) refl)
            (λ f. let low_e = below e (value_count spec.factors x) (rw (f) at t) in or_right (d == 0) _ (below_test d (value_count spec.factors x) (omega arith)))

    pub least_known : belongs spec (least_env spec cube) ≡ true
    unfolding belongs
    least_known = each_all (λ x. is_digit spec x (factor_in (least_env spec cube) x)) 6
        (λ x low. value_test x (factor_in (least_env spec cube) x) (factor_in v x) low (factors_below x)
        (ap (is_digit spec x) (sym (digit_factor v x low)) ∙ is_digit_there spec made v known x))

    processor_held : (p : ℕ) → p < 8 → has_bit cube.bits (4 * (6 + p) + digit_in (least_env spec cube) (6 + p)) ≡ true
    processor_held p few = by_bool (is_up_in (least_env spec cube) p)
        (λ up.
        let e : digit_in (least_env spec cube) (6 + p) ≡ 0 = digit_processor (least_env spec cube) p ∙ rw (up) refl in
        ap (λ (d : ℕ). has_bit cube.bits (4 * (6 + p) + d)) e ∙ (elim (low_or_high p (length spec.procs)) [
          | inl low ↦ sym (up_least p low) ∙ up
          | inr high ↦ true_false (is_up_in (least_env spec cube) p) up (up_past p high)
        ]))
        (λ down.
        let e : digit_in (least_env spec cube) (6 + p) ≡ 1 = digit_processor (least_env spec cube) p ∙ rw (down) refl in
        let f : digit_in v (6 + p) ≡ 1 = digit_processor v p ∙ rw (down_there p down) refl in
        ap (λ (d : ℕ). has_bit cube.bits (4 * (6 + p) + d)) (e ∙ sym f) ∙ there (6 + p) (omega arith))
      where
        down_there : (p : ℕ) → is_up_in (least_env spec cube) p ≡ false → is_up_in v p ≡ false
        down_there p down = by_bool (is_up_in v p)
            (λ up. elim (low_or_high p (length spec.procs)) [
              | inl low ↦ true_false (is_up_in (least_env spec cube) p) (up_both p low up) down
              | inr high ↦ true_false (is_up_in v p) up (ap (λ (n : ℕ). n == 1) (no_bit v.up (length spec.procs) p known.up high))
            ])
            (λ f. f)

    pub least_held : holds cube (least_env spec cube) ≡ true
    unfolding holds IsLeastDigit
    least_held = each_all (allows cube (least_env spec cube)) 14 (λ x low. elim (low_or_high x 6) [
      | inl factor ↦
          ap (λ (d : ℕ). has_bit cube.bits (4 * x + d)) (digit_factor (least_env spec cube) x factor ∙ factor_least x factor) ∙ (least_at x factor).1
      | inr processor ↦
          let split : 6 + (x - 6) ≡ x = omega arith in
          ap (λ (y : ℕ). has_bit cube.bits (4 * y + digit_in (least_env spec cube) y)) (sym split) ∙ processor_held (x - 6) (omega arith)
    ])

  -- If the environment of smallest digits belongs to the specification, is held by the cube and is in scope, it is
  -- the first environment in scope, by number, that the cube holds. Otherwise the cube holds no environment in scope.

  pub found : (env : Env) → env ≡ least_env spec cube → belongs spec env ≡ true → holds cube env ≡ true → in_scope spec env ≡ true → IsLeast spec (λ v. holds cube v) env
  found env is belonging held scope =
      let all : belongs spec (least_env spec cube) ≡ true = ap (belongs spec) (sym is) ∙ belonging in
      record {
        belongs = subst (IsEnv spec) (sym is) (least_belongs all);
        scope = scope;
        passes = held;
        least = λ v known scope_v held_v. subst (λ (w : Env). number_of spec w ≤ number_of spec v) (sym is) (least_number v known held_v);
      }

  missed : (test : Env → Bool) (env v : Env) → env ≡ least_env spec cube → test env ≡ false → (holds cube v ≡ true → test (least_env spec cube) ≡ true) → holds cube v ≡ false
  missed test env v is fails would = by_bool (holds cube v)
      (λ t. true_false (test env) (ap test is ∙ would t) fails)
      (λ f. f)

  pub missed_belonging : (env : Env) → env ≡ least_env spec cube → belongs spec env ≡ false → (v : Env) → IsEnv spec v → in_scope spec v ≡ true → holds cube v ≡ false
  missed_belonging env is fails v known scope = missed (belongs spec) env v is fails (λ t. least_known v known t)

  pub missed_holding : (env : Env) → env ≡ least_env spec cube → holds cube env ≡ false → (v : Env) → IsEnv spec v → in_scope spec v ≡ true → holds cube v ≡ false
  missed_holding env is fails v known scope = missed (holds cube) env v is fails (λ t. least_held v known t)

  pub missed_scope : (env : Env) → env ≡ least_env spec cube → in_scope spec env ≡ false → (v : Env) → IsEnv spec v → in_scope spec v ≡ true → holds cube v ≡ false
  missed_scope env is fails v known scope = missed (in_scope spec) env v is fails (λ t. least_in_scope v known t scope)

  -- A cube in whose environments more processors are down than the scope allows holds no environment in scope.

  pub out_of_scope : spec.halts < count_below (λ p. not (may_be_up cube p)) (length spec.procs) → (v : Env) → IsInScope spec v → holds cube v ≡ false
  out_of_scope many v scope = by_bool (holds cube v)
      (λ t. let few = few_always_down v scope.belongs t in let most = at_most (down_count spec v) spec.halts scope.scope in absurd (omega arith))
      (λ f. f)
