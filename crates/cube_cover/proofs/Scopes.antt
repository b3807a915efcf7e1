-- Environments of a specification, digit by digit.
use Rattle.std.proofs.Common.{◌≡◌, ◌∙◌, ℕ, ◌+◌, ◌*◌, ◌-◌, ◌^◌, ◌<◌, ◌≤◌, ◌%◌, ◌/◌, refl, ap, arith, Bool, true, false, ◌&&◌, ◌||◌, length}
use mathlib.Core.Logic.{inl, inr}
use Rattle.std.specs.Prelude.{◌==◌, nat_lt, if◌then◌else◌}
use Rattle.std.proofs.Math.Nat.{pow-le-pow_right}
use Rattle.std.proofs.lemmas.Nat.{div-mul-add, mod-mul-add}
use Rattle.scram_types.specs.declared.rows.Env.{Env}
use Rattle.scram_types.specs.Bits.{bits_below, has_bit}
use Rattle.scram_types.specs.Specification.{IsSpec, Parts}
use Rattle.scram_types.proofs.BitSets.{has_bits, no_bit}
use Rattle.scram_types.proofs.Booleans.{or_left, or_right, true_false}
use Rattle.scram_types.proofs.Items.{some_item}
use Rattle.scram_types.proofs.Naturals.{below_test, equal_test, low_or_high, not_below_test}
use Rattle.scram_types.proofs.Searches.{each_all}
use Rattle.choice_table.specs.Environments.{IsEnv, factor_in, is_up_in}
use Rattle.choice_table.specs.Numbering.{value_count}
use Rattle.cube_cover.specs.Cubes.{HasDigits, allows, digit_in, holds, is_digit}
use Rattle.cube_cover.proofs.Closed.{digit_factor, digit_processor}

bit_small : (b : Bool) → (if b then 0 else 1) < 2
bit_small true = omega arith
bit_small false = omega arith

module _ (spec : Parts) (made : IsSpec spec) (v : Env) (belongs : IsEnv spec v) where
  factor_small : (x : ℕ) → factor_in v x < 4
  factor_small x = elim (low_or_high x (length spec.factors)) [
    | inl low ↦ some_item spec.factors x low (λ factor there.
        let most = (made.factors x factor there).count.few in let value = belongs.values x factor there in omega arith)
    | inr high ↦ let zero_there = belongs.rest x high in omega arith
  ]

  digit_small : (x : ℕ) → digit_in v x < 4
  digit_small x = elim (low_or_high x 6) [
    | inl low ↦ let e = digit_factor v x low in let small = factor_small x in omega arith
    | inr high ↦
        let split : x ≡ 6 + (x - 6) = omega arith in
        let e = ap (digit_in v) split ∙ digit_processor v (x - 6) in
        let small = bit_small (is_up_in v (x - 6)) in
        omega arith
  ]

  pub has_digits : HasDigits v
  has_digits = record {
    small = digit_small;
    past = λ x high. (let few = made.factors_count in belongs.rest x (omega arith));
    few = (let few = made.procs_count.few in let room : 2 ^ length spec.procs ≤ 2 ^ 8 = pow-le-pow_right {n = 2} (omega arith) few in let up = belongs.up in omega arith);
  }

  -- Each digit of an environment of the specification satisfies `is_digit` at its place.

  factor_is_digit : (x : ℕ) → (factor_in v x == 0 || nat_lt (factor_in v x) (value_count spec.factors x)) ≡ true
  factor_is_digit x = elim (low_or_high x (length spec.factors)) [
    | inl low ↦ some_item spec.factors x low (λ factor there.
        or_right (factor_in v x == 0) _ (rw (there) (below_test (factor_in v x) (length factor.values) (belongs.values x factor there))))
    | inr high ↦ or_left (factor_in v x == 0) _ (equal_test (factor_in v x) 0 (belongs.rest x high))
  ]

  up_inside : (p : ℕ) → is_up_in v p ≡ true → p < length spec.procs
  up_inside p up = elim (low_or_high p (length spec.procs)) [
    | inl low ↦ low
    | inr high ↦ true_false (is_up_in v p) up (ap (λ (n : ℕ). n == 1) (no_bit v.up (length spec.procs) p belongs.up high))
  ]

  processor_is_digit : (p d : ℕ) (up : Bool) → is_up_in v p ≡ up → d ≡ (if up then 0 else 1) → (d == 1 || (d == 0 && nat_lt (6 + p) (length spec.procs + 6))) ≡ true
  processor_is_digit p d true is e = let low = up_inside p is in rw (e, below_test (6 + p) (length spec.procs + 6) (omega arith)) refl
  processor_is_digit p d false is e = rw (e) refl

  pub is_digit_there : (x : ℕ) → is_digit spec x (digit_in v x) ≡ true
  unfolding is_digit
  is_digit_there x = elim (low_or_high x 6) [
    | inl low ↦ rw (below_test x 6 low, digit_factor v x low) (factor_is_digit x)
    | inr high ↦
        let split : x ≡ 6 + (x - 6) = omega arith in
        let e : digit_in v x ≡ (if is_up_in v (x - 6) then 0 else 1) = ap (digit_in v) split ∙ digit_processor v (x - 6) in
        rw (not_below_test x 6 high) (rw (split) (processor_is_digit (x - 6) (digit_in v (6 + (x - 6))) (is_up_in v (x - 6)) refl (digit_processor v (x - 6))))
  ]

  pub whole_holds : (bits : ℕ) → bits ≡ bits_below (λ n. is_digit spec (n / 4) (n % 4)) 56 → holds (record { bits = bits }) v ≡ true
  unfolding holds
  whole_holds bits is = each_all (allows (record { bits = bits }) v) 14 (λ x low.
      let small = digit_small x in
      let same : 4 * x + digit_in v x ≡ x * 4 + digit_in v x = omega arith in
      ap (λ (n : ℕ). has_bit n (4 * x + digit_in v x)) is
      ∙ has_bits (λ n. is_digit spec (n / 4) (n % 4)) 56 (4 * x + digit_in v x) (omega arith)
      ∙ ap (λ (n : ℕ). is_digit spec (n / 4) (n % 4)) same
      ∙ rw (div-mul-add x 4 (digit_in v x) small, mod-mul-add x 4 (digit_in v x) small) (is_digit_there x))
