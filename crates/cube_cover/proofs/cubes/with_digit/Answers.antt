use Rattle.std.proofs.Common.{◌∙◌, ap, arith}
use Rattle.std.specs.Prelude.{◌&&◌}
use Rattle.cube_cover.specs.Cubes.{holds}
use Rattle.cube_cover.proofs.Closed.{no_digit, one_digit}
use Rattle.cube_cover.proofs.cubes.with_digit.Goals as goal

pub returns-then-d-lt4 : goal.returns-then-d-lt4
returns-then-d-lt4 c = λ v digits. c.inside_at.ensures v digits ∙ ap (λ b. holds c.args.cube v && b) (one_digit v c.args.x c.args.d (omega arith))

pub returns-else-d-lt4 : goal.returns-else-d-lt4
returns-else-d-lt4 c = λ v digits. no_digit c.args.cube v c.args.x c.args.d digits (omega arith)
