use Rattle.std.proofs.Common.{◌∙◌, arith, sym}
use Rattle.cube_cover.proofs.CubeSizes.{zeros_rest}
use Rattle.cube_cover.proofs.sizes.are_zeros_open.Goals as goal

pub loop-x-preserved : goal.loop-x-preserved
loop-x-preserved c = sym (zeros_rest c.args.cube c.loop-x.x (omega arith) (sym c.is_open.ensures ∙ c.if-not-is_open.false)) ∙ c.loop-x.invariant
