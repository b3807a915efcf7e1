use Rattle.std.proofs.Common.{◌≡◌, ◌∙◌, ◌+◌, ◌*◌, ap, arith, sym}
use Rattle.scram_types.specs.Bits.{has_bit}
use Rattle.scram_types.specs.Searches.{all_below}
use Rattle.scram_types.proofs.Searches.{all_false}
use Rattle.cube_cover.specs.Cubes.{allows, holds}
use Rattle.cube_cover.proofs.leasts.holds.Goals as goal

pub returns-then-not-is_open : goal.returns-then-not-is_open
unfolding holds
returns-then-not-is_open c = sym (all_false (allows c.args.cube c.args.env.now) 14 c.loop-x.x (omega arith)
    (ap (λ d. has_bit c.args.cube.bits (4 * c.loop-x.x + d)) (sym c.digit_in.ensures) ∙ sym c.is_open.ensures ∙ c.if-not-is_open.true))

pub returns : goal.returns
unfolding holds
returns c = let end : c.loop-x.x ≡ 14 = omega arith in sym (ap (all_below (allows c.args.cube c.args.env.now)) (sym end) ∙ c.loop-x.invariant)
