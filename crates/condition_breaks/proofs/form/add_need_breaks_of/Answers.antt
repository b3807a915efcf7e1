use Rattle.std.proofs.Common.{◌≡◌, ap, arith, length, refl, ◌++◌, ◌∙◌}
use Rattle.condition_breaks.specs.Breaks.{need_break}
use Rattle.condition_breaks.specs.Lists.{gathered_below}
use Rattle.condition_breaks.proofs.Gathering.{gathered_next}
use Rattle.condition_breaks.proofs.form.add_need_breaks_of.Goals as goal

pub loop-b-preserved : goal.loop-b-preserved
loop-b-preserved c =
    let items = need_break c.args.spec.now c.args.c c.args.a in
    gathered_next items c.loop-b.b c.args.breaks.now.items c.loop-b.breaks.items c.add_need_break.new.breaks.items (items c.loop-b.b)
    c.loop-b.invariant c.in_ok-add_need_break.ensures refl

pub returns : goal.returns
returns c =
    let last : c.loop-b.b ≡ length c.args.spec.now.apps = omega arith in
    c.loop-b.invariant ∙ ap (λ n. c.args.breaks.now.items ++ gathered_below (need_break c.args.spec.now c.args.c c.args.a) n) last
