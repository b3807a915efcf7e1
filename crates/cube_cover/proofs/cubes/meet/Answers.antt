use Rattle.cube_cover.proofs.Meeting.{met}
use Rattle.cube_cover.proofs.cubes.meet.Goals as goal

pub returns : goal.returns
returns c = λ v digits held. met c.args.one c.args.other v digits held
