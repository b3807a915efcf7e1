use Rattle.std.proofs.Common.{◌≡◌, add-one, arith}
use Rattle.choice_table.specs.Numbering.{combinations}
use Rattle.choice_table.proofs.Digits.{combinations_least, most_combinations, product_end, product_few, product_step}
use Rattle.choice_table.proofs.numbering.count_combinations.Goals as goal

pub overflow_mul-product : goal.overflow_mul-product
overflow_mul-product c =
    let few = product_few c.args.spec.now.factors c.loop-x.x c.loop-x.product c.count_factors-x-end.ensures.known (omega arith) (omega arith) c.loop-x.invariant in
    rw (c.count_values-product.ensures.value) (omega arith)

whole : (c : goal.After-loop-x) → c.loop-x.product ≡ combinations c.args.spec.now.factors
whole c = product_end c.args.spec.now.factors c.loop-x.x c.loop-x.product (omega arith) c.loop-x.invariant

pub returns-clause-least : goal.returns-clause-least
returns-clause-least c =
    rw (whole c) (combinations_least c.args.spec.now.factors c.count_factors-x-end.ensures.known)

pub returns-clause-most : goal.returns-clause-most
returns-clause-most c =
    rw (whole c) (most_combinations c.args.spec.now.factors c.count_factors-x-end.ensures.known (omega arith))

pub loop-x-preserved : goal.loop-x-preserved
loop-x-preserved c =
    let few = c.count_factors-x-end.ensures.value in
    rw (c.count_values-product.ensures.value, add-one) (product_step c.args.spec.now.factors c.loop-x.x c.loop-x.product (omega arith) c.loop-x.invariant)

pub returns-clause-value : goal.returns-clause-value
returns-clause-value c = whole c
