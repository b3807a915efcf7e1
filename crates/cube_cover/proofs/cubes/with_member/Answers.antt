use Rattle.std.proofs.Common.{◌≡◌, ◌∙◌, ◌+◌, ap, sym}
use Rattle.std.specs.Prelude.{◌&&◌, ◌||◌, ◌==◌, not, true, false}
use Rattle.std.proofs.Math.Bool.{and-true}
use Rattle.scram_types.specs.Bits.{has_bit}
use Rattle.cube_cover.specs.Cubes.{digit_in, holds}
use Rattle.cube_cover.proofs.cubes.with_member.Goals as goal

pub returns-then-has_bit : goal.returns-then-has_bit
returns-then-has_bit c = λ v digits.
    let member : has_bit c.args.set c.args.p ≡ true = sym c.has_bit.ensures ∙ c.if-has_bit.true in
    c.with_digit.ensures v digits
    ∙ ap (λ b. holds c.args.cube v && b) (sym (ap (λ b. not b || (digit_in v (6 + c.args.p) == c.args.d)) member))

pub returns-else-has_bit : goal.returns-else-has_bit
returns-else-has_bit c = λ v digits.
    let other : has_bit c.args.set c.args.p ≡ false = sym c.has_bit.ensures ∙ c.if-has_bit.false in
    sym (and-true (holds c.args.cube v))
    ∙ ap (λ b. holds c.args.cube v && b) (sym (ap (λ b. not b || (digit_in v (6 + c.args.p) == c.args.d)) other))
