use Rattle.std.proofs.Common.{arith}
use Rattle.cube_cover.proofs.CubeSizes.{few_ways, ways_room, ways_step}
use Rattle.cube_cover.proofs.sizes.count_combinations.Goals as goal

pub overflow_mul-product : goal.overflow_mul-product
overflow_mul-product c =
    let few = few_ways c.loop-x.product c.count_open-product.result c.loop-x.x c.count_open-product.ensures.most c.loop-x.invariant.few (omega arith) in
    let most = ways_room _ _ few (omega arith) in
    omega (arith, most)

pub loop-x-preserved : goal.loop-x-preserved
loop-x-preserved c = record {
  ways = ways_step c.args.cube c.args.spec.now.factors c.loop-x.x c.loop-x.product c.count_open-product.result _ (omega arith) c.count_open-product.ensures.value c.loop-x.invariant.ways;
  few = few_ways c.loop-x.product c.count_open-product.result c.loop-x.x c.count_open-product.ensures.most c.loop-x.invariant.few (omega arith);
}

pub returns-clause-most : goal.returns-clause-most
returns-clause-most c = ways_room c.loop-x.product c.loop-x.x c.loop-x.invariant.few (omega arith)
