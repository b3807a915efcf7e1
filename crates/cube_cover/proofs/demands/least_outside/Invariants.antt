use Rattle.std.proofs.Common.{take, ◌&&◌}
use Rattle.cube_cover.specs.Covers.{IsLeastEnv}
use Rattle.cube_cover.specs.Cubes.{holds}
use Rattle.cube_cover.specs.Demands.{is_outside}
use Rattle.cube_cover.specs.Regions.{is_marked}
use Rattle.cube_cover.proofs.demands.least_outside.Given as goal

abbrev pub invariant-loop-region : goal.invariant-loop-region
invariant-loop-region l = IsLeastEnv l.spec (λ v. is_marked (take l.region-index l.regions) (is_outside l.met) v && holds l.by v) l.least
