use Rattle.cube_cover.proofs.Holds.{both_holds}
use Rattle.cube_cover.proofs.cubes.both.Goals as goal

pub returns : goal.returns
returns c = λ v. both_holds c.args.one c.args.other v
