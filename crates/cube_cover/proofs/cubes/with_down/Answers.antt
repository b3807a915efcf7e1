use Rattle.std.proofs.Common.{◌∙◌, ap}
use Rattle.std.specs.Prelude.{◌&&◌}
use Rattle.cube_cover.specs.Cubes.{holds}
use Rattle.cube_cover.proofs.Closed.{down_by_digits}
use Rattle.cube_cover.proofs.cubes.with_down.Goals as goal

pub returns : goal.returns
returns c = λ v digits. c.with_processors.ensures v digits ∙ ap (λ b. holds c.args.cube v && b) (down_by_digits c.args.set v digits.few)
