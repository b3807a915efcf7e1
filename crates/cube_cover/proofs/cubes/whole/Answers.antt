use Rattle.std.proofs.Common.{◌≡◌, ◌∙◌, ◌/◌, ◌%◌, ap, arith}
use Rattle.scram_types.specs.Bits.{bits_below}
use Rattle.cube_cover.specs.Cubes.{is_digit}
use Rattle.cube_cover.proofs.Scopes.{whole_holds}
use Rattle.cube_cover.proofs.cubes.whole.Goals as goal

pub returns : goal.returns
returns c = λ v belongs.
    let end : c.loop-n.n ≡ 56 = omega arith in
    whole_holds c.args.spec.now c.requires v belongs c.loop-n.bits (c.loop-n.invariant.bits ∙ ap (bits_below (λ n. is_digit c.args.spec.now (n / 4) (n % 4))) end)
