use Rattle.cube_cover.proofs.Bits.{field_is}
use Rattle.cube_cover.proofs.cubes.field.Goals as goal

pub returns : goal.returns
returns c = field_is c.args.x c.requires
