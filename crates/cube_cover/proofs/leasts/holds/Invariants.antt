use Rattle.std.proofs.Common.{◌≡◌, true}
use Rattle.scram_types.specs.Searches.{all_below}
use Rattle.cube_cover.specs.Cubes.{allows}
use Rattle.cube_cover.proofs.leasts.holds.Given as goal

abbrev pub invariant-loop-x : goal.invariant-loop-x
invariant-loop-x l = all_below (allows l.cube l.env) l.x ≡ true
