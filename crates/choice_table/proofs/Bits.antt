-- Sets of numbers, stored as bits.
use Rattle.std.proofs.Common.{◌≡◌, ℕ, zero, suc, ◌+◌, ◌-◌, ◌*◌, ◌≤◌, ◌^◌, ◌%◌, refl, arith, not, ◌∙◌}
use mathlib.Core.Logic.{inl, inr}
use Rattle.std.specs.Prelude.{bit_and, if◌then◌else◌}
use Rattle.std.proofs.Math.Nat.{mod-one}
use Rattle.std.proofs.lemmas.Nat.{and_mask, one_shl}
use Rattle.scram_types.proofs.BitSets.{twice, low_bits, bit_cases}
use Rattle.scram_types.specs.Bits.{has_bit, bits_below}

-- Taken as bits, the numbers below `n` that are in a set and the numbers below `n` that are not in the set add up to
-- `2 ^ n - 1`.
pub others : (set n : ℕ) → bits_below (λ p. not (has_bit set p)) n + set % 2 ^ n + 1 ≡ 2 ^ n
others set zero = rw (mod-one set) refl
others set (suc n) =
    let before = others set n in
    let both = twice n in
    let more = low_bits set n in
    elim (bit_cases set n) [
      | inl e ↦
          let here : (if not (has_bit set n) then 2 ^ n else 0) ≡ 2 ^ n = rw e refl in
          let low : set % 2 ^ suc n ≡ set % 2 ^ n = more ∙ rw e (omega arith) in
          omega arith
      | inr e ↦
          let here : (if not (has_bit set n) then 2 ^ n else 0) ≡ 0 = rw e refl in
          let low : set % 2 ^ suc n ≡ 2 ^ n + set % 2 ^ n = more ∙ rw e (omega arith) in
          omega arith
    ]

pub others_by_mask : (set count : ℕ) → count ≤ 8
    → (1 * 2 ^ count) % 65536 - 1 - bit_and set ((1 * 2 ^ count) % 65536 - 1) ≡ bits_below (λ p. not (has_bit set p)) count
others_by_mask set count few =
    let whole : (1 * 2 ^ count) % 65536 ≡ 2 ^ count = one_shl count 16 (omega arith) in
    let all = others set count in
    rw (whole, and_mask set count) (omega arith)
