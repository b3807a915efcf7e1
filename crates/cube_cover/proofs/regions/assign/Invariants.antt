use Rattle.std.proofs.Common.{take}
use Rattle.cube_cover.specs.Regions.{MarksMore}
use Rattle.cube_cover.proofs.regions.assign.Given as goal

abbrev pub invariant-loop-cube : goal.invariant-loop-cube
invariant-loop-cube l = MarksMore l.initial.regions.items l.regions.items (take l.cube-index l.cubes) l.target
