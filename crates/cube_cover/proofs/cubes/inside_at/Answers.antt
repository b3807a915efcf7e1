use Rattle.std.proofs.Common.{ap}
use Rattle.std.specs.Prelude.{bit_and, bit_or}
use Rattle.std.specs.Int.{bit_not, w64}
use Rattle.cube_cover.proofs.Holds.{inside_holds}
use Rattle.cube_cover.proofs.cubes.inside_at.Goals as goal

pub returns : goal.returns
returns c = λ v digits. inside_holds c.args.cube c.args.by c.args.x c.requires v digits _
    (ap (λ n. bit_and c.args.cube.bits (bit_or c.args.by.bits (bit_not w64 n))) c.field.ensures)
