use Rattle.std.proofs.Common.{take}
use Rattle.cube_cover.specs.Cubes.{IsSplit}
use Rattle.cube_cover.proofs.splits.split_by.Given as goal

abbrev pub invariant-loop-cube : goal.invariant-loop-cube
invariant-loop-cube l = IsSplit l.spec (take l.cube-index l.cubes) l.by l.inside.items l.outside.items
