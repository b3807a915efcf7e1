use Rattle.std.proofs.Common.{◌≡◌, ◌∙◌, ◌+◌, ap, arith, sym}
use Rattle.std.specs.Prelude.{◌&&◌, ◌||◌, ◌==◌, not}
use Rattle.std.proofs.Math.Bool.{and-true}
use Rattle.scram_types.specs.Bits.{has_bit}
use Rattle.scram_types.specs.Searches.{all_below}
use Rattle.scram_types.proofs.Naturals.{plus_one}
use Rattle.cube_cover.specs.Cubes.{digit_in, holds}
use Rattle.cube_cover.proofs.Holds.{and_last}
use Rattle.cube_cover.proofs.cubes.with_processors.Goals as goal

pub loop-p-init : goal.loop-p-init
loop-p-init c = λ v digits. sym (and-true (holds c.args.cube v))

pub loop-p-preserved : goal.loop-p-preserved
loop-p-preserved c = λ v digits.
    c.with_member-narrow.ensures v digits
    ∙ ap (λ b. b && (not (has_bit c.args.set c.loop-p.p) || (digit_in v (6 + c.loop-p.p) == c.args.d))) (c.loop-p.invariant v digits)
    ∙ sym (and_last (holds c.args.cube v) (all_below (λ p. not (has_bit c.args.set p) || (digit_in v (6 + p) == c.args.d)) c.loop-p.p)
    (not (has_bit c.args.set c.loop-p.p) || (digit_in v (6 + c.loop-p.p) == c.args.d)))
    ∙ ap (λ n. holds c.args.cube v && all_below (λ p. not (has_bit c.args.set p) || (digit_in v (6 + p) == c.args.d)) n) (plus_one c.loop-p.p)

pub returns : goal.returns
returns c = λ v digits.
    let end : c.loop-p.p ≡ 8 = omega arith in
    c.loop-p.invariant v digits
    ∙ ap (λ n. holds c.args.cube v && all_below (λ p. not (has_bit c.args.set p) || (digit_in v (6 + p) == c.args.d)) n) end
