use Rattle.std.proofs.Common.{◌∙◌, ap, sym}
use Rattle.std.specs.Prelude.{◌||◌, ◌&&◌}
use Rattle.cube_cover.specs.Cubes.{holds, is_in}
use Rattle.cube_cover.proofs.Unions.{in_more}
use Rattle.cube_cover.proofs.Tests.{or_none}
use Rattle.cube_cover.proofs.regions.push_where.Goals as goal

pub returns-then-not-is_wanted : goal.returns-then-not-is_wanted
returns-then-not-is_wanted c = λ v. or_none (is_in c.args.cubes.now.items v) (c.args.is_wanted && holds c.args.cube v) (ap (λ b. b && holds c.args.cube v) c.if-not-is_wanted.true)

pub returns : goal.returns
returns c = λ v. ap (λ xs. is_in xs v) c.in_ok-push.ensures.items ∙ in_more c.args.cubes.now.items c.args.cube v
    ∙ ap (λ b. is_in c.args.cubes.now.items v || (b && holds c.args.cube v)) (sym c.if-not-is_wanted.false)
