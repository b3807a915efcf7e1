use Rattle.std.proofs.Common.{◌∙◌, ap, arith}
use Rattle.std.specs.Prelude.{◌&&◌}
use Rattle.cube_cover.specs.Cubes.{holds}
use Rattle.cube_cover.proofs.Closed.{up_by_digits}
use Rattle.cube_cover.proofs.cubes.with_up.Goals as goal

pub returns : goal.returns
returns c = λ v digits. c.with_processors.ensures v digits ∙ ap (λ b. holds c.args.cube v && b) (up_by_digits c.args.set v (omega arith))
