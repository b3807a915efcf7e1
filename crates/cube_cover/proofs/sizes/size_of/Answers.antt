use Rattle.std.proofs.Common.{sym, ◌∙◌}
use Rattle.cube_cover.proofs.CubeSizes.{size_counted, size_none}
use Rattle.cube_cover.proofs.sizes.size_of.Goals as goal

pub returns-then-are_zeros_open : goal.returns-then-are_zeros_open
returns-then-are_zeros_open c =
    size_counted c.args.spec.now c.requires c.args.cube c.count_sets_held.result c.count_combinations.result (sym c.are_zeros_open.ensures ∙ c.if-are_zeros_open.true)
    c.count_sets_held.ensures.value c.count_combinations.ensures.value

pub returns-else-are_zeros_open : goal.returns-else-are_zeros_open
returns-else-are_zeros_open c = size_none c.args.spec.now c.requires c.args.cube (sym c.are_zeros_open.ensures ∙ c.if-are_zeros_open.false)
