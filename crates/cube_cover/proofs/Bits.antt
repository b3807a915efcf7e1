-- Lemmas on the bits of a cube.
use Rattle.std.proofs.Common.{◌≡◌, ◌∙◌, ℕ, ◌+◌, ◌-◌, ◌*◌, ◌^◌, ◌<◌, ◌≤◌, ◌%◌, ◌/◌, refl, ap, sym, arith, true, false, not, ◌&&◌, ◌||◌}
use mathlib.Core.Logic.{inl, inr}
use Rattle.std.specs.Prelude.{◌==◌, bit_and, bit_or}
use Rattle.std.specs.Int.{bit_at, bit_not, w64}
use Rattle.std.proofs.Math.Nat.{mod-eq_of_lt, pow-le-pow_right}
use Rattle.std.proofs.lemmas.Nat.{pow_pos, shr-shr}
use Rattle.std.proofs.lemmas.Nat.Bits.{bit_at-pow_other, bit_at-pow_same, bit_at-zero, bit_at_and, bit_at_cat_high, bit_at_cat_low, bit_at_not, bit_at_ones, bit_at_ones_above, bit_at_or}
use Rattle.scram_types.specs.Bits.{has_bit}
use Rattle.scram_types.proofs.BitSets.{bit_cases}
use Rattle.scram_types.proofs.Naturals.{differ_test, equal_test, low_or_high, same_or_not}
use Rattle.cube_cover.specs.Cubes.{field_of}

pub has_and : (a b p : ℕ) → has_bit (bit_and a b) p ≡ (has_bit a p && has_bit b p)
has_and a b p = elim (bit_cases a p) [
  | inl e ↦ elim (bit_cases b p) [ inl f ↦ rw (bit_at_and a b p, e, f) refl | inr f ↦ rw (bit_at_and a b p, e, f) refl ]
  | inr e ↦ elim (bit_cases b p) [ inl f ↦ rw (bit_at_and a b p, e, f) refl | inr f ↦ rw (bit_at_and a b p, e, f) refl ]
]

pub has_or : (a b p : ℕ) → has_bit (bit_or a b) p ≡ (has_bit a p || has_bit b p)
has_or a b p = elim (bit_cases a p) [
  | inl e ↦ elim (bit_cases b p) [ inl f ↦ rw (bit_at_or a b p, e, f) refl | inr f ↦ rw (bit_at_or a b p, e, f) refl ]
  | inr e ↦ elim (bit_cases b p) [ inl f ↦ rw (bit_at_or a b p, e, f) refl | inr f ↦ rw (bit_at_or a b p, e, f) refl ]
]

pub has_not : (a p : ℕ) → a < 2 ^ 64 → p < 64 → has_bit (bit_not w64 a) p ≡ not (has_bit a p)
has_not a p few low = elim (bit_cases a p) [ inl e ↦ rw (bit_at_not w64 a p few low, e) refl | inr e ↦ rw (bit_at_not w64 a p few low, e) refl ]

pub has_none : (p : ℕ) → has_bit 0 p ≡ false
has_none p = rw (bit_at-zero p) refl

pub has_each : (p : ℕ) → p < 64 → has_bit (2 ^ 64 - 1) p ≡ true
has_each p low = rw (bit_at_ones 64 p low) refl

pub has_shifted : (a k p : ℕ) → has_bit (a / 2 ^ k) p ≡ has_bit a (k + p)
has_shifted a k p = ap (λ (n : ℕ). n % 2 == 1) (shr-shr a k p)

-- Lemmas on the bits of one place.

wide : (x : ℕ) → x < 14 → 2 ^ (4 * x) ≤ 2 ^ 52
wide x low = let last : 4 * x ≤ 52 = omega arith in pow-le-pow_right {n = 2} (omega arith) last

few : (x : ℕ) → x < 14 → 15 * 2 ^ (4 * x) < 2 ^ 64
few x low = omega (arith, wide x low)

pub field_few : (x : ℕ) → x < 14 → field_of x < 2 ^ 64
unfolding field_of
field_few x low = few x low

pub field_is : (x : ℕ) → x < 14 → (15 * 2 ^ (4 * x)) % 2 ^ 64 ≡ field_of x
unfolding field_of
field_is x low = mod-eq_of_lt (few x low)

pub field_bits : (x y d : ℕ) → d < 4 → has_bit (field_of x) (4 * y + d) ≡ (y == x)
unfolding field_of
field_bits x y d small = elim (low_or_high (4 * y + d) (4 * x)) [
  | inl low ↦
      let same : 15 * 2 ^ (4 * x) ≡ 15 * 2 ^ (4 * x) + 0 = omega arith in
      ap (λ (n : ℕ). n == 1) (ap (λ (n : ℕ). bit_at n (4 * y + d)) same ∙ bit_at_cat_low 15 (4 * x) 0 (4 * y + d) low ∙ bit_at-zero (4 * y + d)) ∙ sym (differ_test y x (omega arith))
  | inr high ↦
      let same : 15 * 2 ^ (4 * x) ≡ 15 * 2 ^ (4 * x) + 0 = omega arith in
      let there : bit_at (15 * 2 ^ (4 * x)) (4 * y + d) ≡ bit_at 15 (4 * y + d - 4 * x) =
      ap (λ (n : ℕ). bit_at n (4 * y + d)) same ∙ bit_at_cat_high 15 (4 * x) 0 (4 * y + d) (pow_pos (4 * x)) high in
      elim (low_or_high (4 * y + d - 4 * x) 4) [
        | inl inside ↦ ap (λ (n : ℕ). n == 1) (there ∙ bit_at_ones 4 (4 * y + d - 4 * x) inside) ∙ sym (equal_test y x (omega arith))
        | inr past ↦ ap (λ (n : ℕ). n == 1) (there ∙ bit_at_ones_above 4 (4 * y + d - 4 * x) past) ∙ sym (differ_test y x (omega arith))
      ]
]

pub digit_bits : (x d e : ℕ) → has_bit (2 ^ (4 * x + d)) (4 * x + e) ≡ (e == d)
digit_bits x d e = elim (same_or_not e d) [
  | inl same ↦ rw (same, bit_at-pow_same (4 * x + d)) (sym (equal_test d d refl))
  | inr apart ↦ rw (bit_at-pow_other (4 * x + d) (4 * x + e) (λ s. apart (omega arith))) (sym (differ_test e d apart))
]
