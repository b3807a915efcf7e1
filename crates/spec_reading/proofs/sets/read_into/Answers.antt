use Rattle.std.proofs.Common.{◌≡◌, ◌∙◌, ◌*◌, ◌^◌, ◌%◌, ℕ, true, false, length, rules, arith, ap, subst}
use Rattle.std.specs.Prelude.{bit_or}
use mathlib.Core.Logic.{inl, inr}
use Rattle.std.proofs.Math.Pow.{pow-lt}
use Rattle.std.proofs.lemmas.Nat.{one_shl, or_lt}
use Rattle.scram_types.specs.Bits.{has_bit}
use Rattle.scram_types.proofs.BitSets.{has_more}
use Rattle.spec_reading.proofs.sets.read_into.Goals as goal

pub returns-else-is_in-2-clause-below : goal.returns-else-is_in-2-clause-below
returns-else-is_in-2-clause-below g c =
    rw (one_shl c.in_ok-number.number 16 (omega (arith, c.in_ok-number.ensures.below, c.requires.few)))
    (or_lt (length c.args.items.now) c.args.set _ c.requires.set (pow-lt c.in_ok-number.ensures.below))

pub returns-else-is_in-2-clause-apart : goal.returns-else-is_in-2-clause-apart
returns-else-is_in-2-clause-apart g c n is =
    let shifted : (1 * 2 ^ c.in_ok-number.number) % 65536 ≡ 2 ^ c.in_ok-number.number = one_shl c.in_ok-number.number 16 (omega (arith, c.in_ok-number.ensures.below, c.requires.few)) in
    let more : has_bit (bit_or c.args.set (2 ^ c.in_ok-number.number)) n ≡ true = subst (λ (bit : ℕ). has_bit (bit_or c.args.set bit) n ≡ true) shifted is in
    let free : has_bit c.args.refused.barred c.in_ok-number.number ≡ false = search rules in
    elim (has_more c.args.set c.in_ok-number.number n more) [
      | inl before ↦ c.requires.apart n before
      | inr here ↦ ap (has_bit c.args.refused.barred) here ∙ free
    ]
