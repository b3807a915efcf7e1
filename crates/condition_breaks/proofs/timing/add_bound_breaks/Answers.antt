use Rattle.std.proofs.Common.{◌≡◌, ap, arith, length, refl, ◌++◌, ◌∙◌}
use Rattle.condition_breaks.specs.Breaks.{bound_breaks_from}
use Rattle.condition_breaks.specs.Lists.{gathered_below}
use Rattle.condition_breaks.proofs.Gathering.{gathered_next}
use Rattle.condition_breaks.proofs.timing.add_bound_breaks.Goals as goal

pub loop-i-preserved : goal.loop-i-preserved
loop-i-preserved c =
    let items = bound_breaks_from c.args.spec.now in
    gathered_next items c.loop-i.i c.args.breaks.now.items c.loop-i.breaks.items c.add_bound_breaks_from.new.breaks.items (items c.loop-i.i)
    c.loop-i.invariant c.in_ok-add_bound_breaks_from.ensures refl

pub returns : goal.returns
returns c =
    let last : c.loop-i.i ≡ length c.args.spec.now.confs = omega arith in
    c.loop-i.invariant ∙ ap (λ n. c.args.breaks.now.items ++ gathered_below (bound_breaks_from c.args.spec.now) n) last
