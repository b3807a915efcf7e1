use Rattle.std.proofs.Common.{◌≡◌, ◌∙◌, ◌+◌, ap, arith, length, sym, take}
use Rattle.std.proofs.Math.Seq.{take-length}
use Rattle.choice_table.specs.Numbering.{environments}
use Rattle.cube_cover.specs.Sizes.{sum_below}
use Rattle.cube_cover.proofs.CubeSizes.{environments_few, held_all, held_at, held_most, held_next, held_start}
use Rattle.cube_cover.proofs.sizes.count_held.Goals as goal

pub loop-cube-init : goal.loop-cube-init
loop-cube-init c = sym (held_start c.args.spec.now c.args.cubes.now)

next : (c : goal.After-size_of-count) → c.loop-cube.count + c.size_of-count.result ≡ sum_below (held_at c.args.spec.now (take (c.loop-cube.cube-index + 1) c.args.cubes.now)) (environments c.args.spec.now)
next c =
    ap (λ n. n + c.size_of-count.result) c.loop-cube.invariant ∙ ap (λ n. sum_below (held_at c.args.spec.now (take c.loop-cube.cube-index c.args.cubes.now)) (environments c.args.spec.now) + n) c.size_of-count.ensures
    ∙ sym (held_next c.args.spec.now c.args.cubes.now c.loop-cube.cube-index _ c.loop-cube-test.true)

pub overflow_add-count : goal.overflow_add-count
overflow_add-count c =
    let most = held_most c.args.spec.now c.requires.known c.args.cubes.now c.requires.disjoint (c.loop-cube.cube-index + 1) in
    let few = environments_few c.args.spec.now c.requires.known in
    let is = next c in
    omega (arith, most, few, is)

pub loop-cube-preserved : goal.loop-cube-preserved
loop-cube-preserved c = next c

pub returns : goal.returns
returns c =
    let end : c.loop-cube.cube-index ≡ length c.args.cubes.now = omega arith in
    c.loop-cube.invariant ∙ ap (λ xs. sum_below (held_at c.args.spec.now xs) (environments c.args.spec.now)) (ap (λ n. take n c.args.cubes.now) end ∙ take-length c.args.cubes.now)
    ∙ held_all c.args.spec.now c.requires.known c.args.cubes.now c.requires.disjoint
