use Rattle.std.proofs.Common.{◌≡◌, ap, arith, length, refl, ◌++◌, ◌∙◌}
use Rattle.condition_breaks.specs.Breaks.{demand_breaks_in}
use Rattle.condition_breaks.specs.Lists.{gathered_below}
use Rattle.condition_breaks.proofs.Gathering.{gathered_next}
use Rattle.condition_breaks.proofs.demands.add_demand_breaks.Goals as goal

pub loop-c-preserved : goal.loop-c-preserved
loop-c-preserved c =
    let items = demand_breaks_in c.args.spec.now in
    gathered_next items c.loop-c.c c.args.breaks.now.items c.loop-c.breaks.items c.add_demand_breaks_in.new.breaks.items (items c.loop-c.c)
    c.loop-c.invariant c.in_ok-add_demand_breaks_in.ensures refl

pub returns : goal.returns
returns c =
    let last : c.loop-c.c ≡ length c.args.spec.now.confs = omega arith in
    c.loop-c.invariant ∙ ap (λ n. c.args.breaks.now.items ++ gathered_below (demand_breaks_in c.args.spec.now) n) last
