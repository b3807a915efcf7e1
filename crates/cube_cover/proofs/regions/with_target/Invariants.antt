use Rattle.std.proofs.Common.{take}
use Rattle.std.specs.Prelude.{◌==◌}
use Rattle.cube_cover.specs.Regions.{HoldsMarked}
use Rattle.cube_cover.proofs.regions.with_target.Given as goal

abbrev pub invariant-loop-region : goal.invariant-loop-region
invariant-loop-region l = HoldsMarked (take l.region-index l.regions) (λ j. j == l.t) l.cubes.items
