use Rattle.std.proofs.Common.{ap}
use Rattle.std.specs.Prelude.{bit_and}
use Rattle.std.specs.Int.{bit_not, w64}
use Rattle.cube_cover.proofs.Holds.{outside_holds}
use Rattle.cube_cover.proofs.cubes.outside_at.Goals as goal

pub returns : goal.returns
returns c = λ v digits. outside_holds c.args.cube c.args.by c.args.x c.requires v digits _
    (ap (λ n. bit_and c.args.cube.bits (bit_not w64 (bit_and c.args.by.bits n))) c.field.ensures)
