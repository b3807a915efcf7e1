-- If two cubes hold a common environment, they have a common open digit at each place.
use Rattle.std.proofs.Common.{◌≡◌, ◌∙◌, ℕ, zero, suc, ◌+◌, ◌*◌, ◌^◌, ◌<◌, ◌%◌, ◌/◌, refl, ap, sym, arith, Bool, true, ◌&&◌, ◌||◌}
use mathlib.Core.Logic.{inl, inr}
use Rattle.std.specs.Prelude.{◌==◌, bit_and, bit_or}
use Rattle.std.proofs.lemmas.Nat.{and_comm}
use Rattle.scram_types.specs.declared.rows.Env.{Env}
use Rattle.scram_types.specs.Bits.{bits_below, has_bit}
use Rattle.scram_types.proofs.Booleans.{and_left, and_right, and_true, or_left, or_right, true_false}
use Rattle.scram_types.proofs.BitSets.{has_bits, no_bit}
use Rattle.scram_types.proofs.Naturals.{equal, low_or_high}
use Rattle.scram_types.proofs.Searches.{all_each}
use Rattle.choice_table.proofs.Members.{sets_by_members}
use Rattle.cube_cover.specs.declared.cubes.Cube.{Cube}
use Rattle.cube_cover.specs.Cubes.{HasDigits, allows, digit_in, holds}
use Rattle.cube_cover.proofs.Bits.{has_and, has_or, has_shifted}

first_bits : ℕ → Bool
first_bits p = p % 4 == 0

firsts : 4803839602528529 ≡ bits_below first_bits 56
unfolding first_bits
firsts = refl

few : 4803839602528529 < 2 ^ 56
few = omega arith

is_first : (p : ℕ) → has_bit 4803839602528529 p ≡ true → (x : ℕ) × (x < 14) × (p ≡ 4 * x)
unfolding first_bits
is_first p bit = elim (low_or_high p 56) [
  | inl low ↦
      let zero_left : p % 4 ≡ 0 = equal (p % 4) 0 (sym (has_bits first_bits 56 p low) ∙ ap (λ (n : ℕ). has_bit n p) (sym firsts) ∙ bit) in
      (p / 4, omega arith, omega arith)
  | inr high ↦ true_false (has_bit 4803839602528529 p) bit (ap (λ (n : ℕ). n == 1) (no_bit 4803839602528529 56 p few high))
]

module _ (both : ℕ) where
  abbrev pairs : ℕ
  pairs = bit_or both (both / 2 ^ 1)

  abbrev digits : ℕ
  digits = bit_or pairs (pairs / 2 ^ 2)

  pair : (n : ℕ) → has_bit pairs n ≡ (has_bit both n || has_bit both (1 + n))
  pair n = has_or both (both / 2 ^ 1) n ∙ ap (λ (b : Bool). has_bit both n || b) (has_shifted both 1 n)

  four : (n : ℕ) → has_bit digits n ≡ (has_bit pairs n || has_bit pairs (2 + n))
  four n = has_or pairs (pairs / 2 ^ 2) n ∙ ap (λ (b : Bool). has_bit pairs n || b) (has_shifted pairs 2 n)

  shown : (x d : ℕ) → d < 4 → has_bit both (4 * x + d) ≡ true → has_bit digits (4 * x) ≡ true
  shown x zero low bit = four (4 * x) ∙ or_left _ _ (pair (4 * x) ∙ or_left _ _ (let e : 4 * x ≡ 4 * x + 0 = omega arith in ap (has_bit both) e ∙ bit))
  shown x (suc zero) low bit = four (4 * x) ∙ or_left _ _ (pair (4 * x) ∙ or_right _ _ (let e : 1 + 4 * x ≡ 4 * x + 1 = omega arith in ap (has_bit both) e ∙ bit))
  shown x (suc (suc zero)) low bit = four (4 * x) ∙ or_right _ _ (pair (2 + 4 * x) ∙ or_left _ _ (let e : 2 + 4 * x ≡ 4 * x + 2 = omega arith in ap (has_bit both) e ∙ bit))
  shown x (suc (suc (suc zero))) low bit = four (4 * x) ∙ or_right _ _ (pair (2 + 4 * x) ∙ or_right _ _ (let e : 1 + (2 + 4 * x) ≡ 4 * x + 3 = omega arith in ap (has_bit both) e ∙ bit))
  shown x (suc (suc (suc (suc d)))) low bit = absurd (omega arith)

pub met : (one other : Cube) (v : Env) → HasDigits v → (holds one v && holds other v) ≡ true
    → (bit_and (digits (bit_and one.bits other.bits)) 4803839602528529 == 4803839602528529) ≡ true
unfolding holds
met one other v small held =
    let both = bit_and one.bits other.bits in
    let each : (x : ℕ) → x < 14 → has_bit (digits both) (4 * x) ≡ true = λ x low. shown both x (digit_in v x) (small.small x)
    (has_and one.bits other.bits (4 * x + digit_in v x)
    ∙ and_true _ _ (all_each (allows one v) 14 x (and_left _ _ held) low) (all_each (allows other v) 14 x (and_right _ _ held) low)) in
    let all = (sets_by_members 4803839602528529 (record { up = digits both; factors = v.factors })).1
    (λ p bit. let first = is_first p bit in ap (has_bit (digits both)) first.2 ∙ each first.0 first.1) in
    ap (λ (n : ℕ). n == 4803839602528529) (and_comm (digits both) 4803839602528529) ∙ all
