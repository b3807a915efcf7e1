use Rattle.std.proofs.Common.{◌≡◌, ◌∙◌, ap, arith}
use Rattle.scram_types.specs.Bits.{bits_below}
use Rattle.scram_types.specs.Lookups.{conf_id}
use Rattle.choice_table.specs.Demands.{is_met}
use Rattle.cube_cover.proofs.demands.met_by.Goals as goal

pub returns : goal.returns
returns c =
    let last : c.loop-c.c ≡ 12 = omega arith in
    c.loop-c.invariant.bits ∙ ap (bits_below (λ m. is_met c.args.spec.now c.args.demand.now (conf_id m))) last
