use Rattle.cube_cover.proofs.Closed.{is_open_where_held}
use Rattle.cube_cover.proofs.cubes.is_open_at.Goals as goal

pub returns : goal.returns
returns c = λ v digits held. is_open_where_held c.args.cube c.args.x c.field.result v c.requires digits held c.field.ensures
