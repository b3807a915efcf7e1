use Rattle.std.proofs.Common.{◌∙◌, arith, sym}
use Rattle.scram_types.proofs.BitSets.{count_most}
use Rattle.cube_cover.specs.Sizes.{is_down_held}
use Rattle.cube_cover.proofs.Counts.{count_pass, count_skip}
use Rattle.cube_cover.proofs.sizes.count_sets_held.Goals.{then-is_down_held, else-is_down_held}
use Rattle.cube_cover.proofs.sizes.count_sets_held.Goals as goal

pub overflow_add-sets : goal.overflow_add-sets
overflow_add-sets c =
    let few = count_most (is_down_held c.args.spec.now c.args.cube) c.loop-down.down in
    let is = c.loop-down.invariant in
    omega (arith, few, is)

pub loop-down-preserved : goal.loop-down-preserved
loop-down-preserved c = elim c.if-is_down_held.branch [
  | then-is_down_held w ↦ w.sets-is ∙ count_pass (is_down_held c.args.spec.now c.args.cube) c.loop-down.down c.loop-down.sets c.loop-down.invariant (sym c.is_down_held.ensures ∙ w.if-is_down_held.true)
  | else-is_down_held w ↦ w.sets-is ∙ count_skip (is_down_held c.args.spec.now c.args.cube) c.loop-down.down c.loop-down.sets c.loop-down.invariant (sym c.is_down_held.ensures ∙ w.if-is_down_held.false)
]

pub returns-clause-most : goal.returns-clause-most
returns-clause-most c =
    let few = count_most (is_down_held c.args.spec.now c.args.cube) c.loop-down.down in
    let is = c.loop-down.invariant in
    omega (arith, few, is)
