use Rattle.std.proofs.Common.{◌≡◌, ap, arith, length, refl, ◌++◌, ◌∙◌}
use Rattle.condition_breaks.specs.Breaks.{shape_break}
use Rattle.condition_breaks.specs.Lists.{gathered_below}
use Rattle.condition_breaks.proofs.Gathering.{gathered_next}
use Rattle.condition_breaks.proofs.form.add_shape_breaks.Goals as goal

pub loop-c-preserved : goal.loop-c-preserved
loop-c-preserved c =
    let items = shape_break c.args.spec.now in
    gathered_next items c.loop-c.c c.args.breaks.now.items c.loop-c.breaks.items c.add_shape_break.new.breaks.items (items c.loop-c.c)
    c.loop-c.invariant c.in_ok-add_shape_break.ensures refl

pub returns : goal.returns
returns c =
    let last : c.loop-c.c ≡ length c.args.spec.now.confs = omega arith in
    c.loop-c.invariant ∙ ap (λ n. c.args.breaks.now.items ++ gathered_below (shape_break c.args.spec.now) n) last
