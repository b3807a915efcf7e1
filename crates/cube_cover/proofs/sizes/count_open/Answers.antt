use Rattle.std.proofs.Common.{arith}
use Rattle.scram_types.proofs.BitSets.{count_most}
use Rattle.cube_cover.specs.Sizes.{is_open_digit}
use Rattle.cube_cover.proofs.CubeSizes.{few_values}
use Rattle.cube_cover.proofs.sizes.count_open.Goals as goal

pub overflow_add-open : goal.overflow_add-open
overflow_add-open c =
    let few = count_most (is_open_digit c.args.cube c.args.x) c.loop-d.d in
    let is = c.loop-d.invariant in
    omega (arith, few, is)

pub returns-clause-most : goal.returns-clause-most
returns-clause-most c =
    let few = count_most (is_open_digit c.args.cube c.args.x) c.loop-d.d in
    let is = c.loop-d.invariant in
    let values = few_values c.args.spec.now c.requires.known c.args.x in
    let count = c.count_values-d-end.ensures in
    omega (arith, few, is, values, count)
