use Rattle.std.proofs.Common.{◌≡◌, ap, arith, length, refl, ◌++◌, ◌∙◌}
use Rattle.condition_breaks.specs.Ranges.{way_to}
use Rattle.condition_breaks.specs.Lists.{gathered_below}
use Rattle.condition_breaks.proofs.Gathering.{gathered_next}
use Rattle.condition_breaks.proofs.ranges.add_other_ways.Goals as goal

pub loop-j-preserved : goal.loop-j-preserved
loop-j-preserved c =
    let items = way_to c.args.spec.now c.args.i in
    gathered_next items c.loop-j.j c.args.ways.now.items c.loop-j.ways.items c.add_way_to.new.ways.items (items c.loop-j.j)
    c.loop-j.invariant c.in_ok-add_way_to.ensures refl

pub returns : goal.returns
returns c =
    let last : c.loop-j.j ≡ length c.args.spec.now.confs = omega arith in
    c.loop-j.invariant ∙ ap (λ n. c.args.ways.now.items ++ gathered_below (way_to c.args.spec.now c.args.i) n) last
