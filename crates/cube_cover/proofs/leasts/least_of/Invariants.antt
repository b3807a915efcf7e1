use Rattle.std.proofs.Common.{take}
use Rattle.cube_cover.specs.Covers.{IsLeastEnv}
use Rattle.cube_cover.specs.Cubes.{is_in}
use Rattle.cube_cover.proofs.leasts.least_of.Given as goal

abbrev pub invariant-loop-cube : goal.invariant-loop-cube
invariant-loop-cube l = IsLeastEnv l.spec (is_in (take l.cube-index l.cubes)) l.least
