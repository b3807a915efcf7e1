use Rattle.std.proofs.Common.{◌≡◌, take}
use Rattle.choice_table.specs.Numbering.{environments}
use Rattle.cube_cover.specs.Sizes.{sum_below}
use Rattle.cube_cover.proofs.CubeSizes.{held_at}
use Rattle.cube_cover.proofs.sizes.count_held.Given as goal

abbrev pub invariant-loop-cube : goal.invariant-loop-cube
invariant-loop-cube l = l.count ≡ sum_below (held_at l.spec (take l.cube-index l.cubes)) (environments l.spec)
