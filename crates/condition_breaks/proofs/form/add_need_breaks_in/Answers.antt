use Rattle.std.proofs.Common.{◌≡◌, ap, arith, length, refl, ◌++◌, ◌∙◌}
use Rattle.condition_breaks.specs.Breaks.{need_breaks_of}
use Rattle.condition_breaks.specs.Lists.{gathered_below}
use Rattle.condition_breaks.proofs.Gathering.{gathered_next}
use Rattle.condition_breaks.proofs.form.add_need_breaks_in.Goals as goal

pub loop-a-preserved : goal.loop-a-preserved
loop-a-preserved c =
    let items = need_breaks_of c.args.spec.now c.args.c in
    gathered_next items c.loop-a.a c.args.breaks.now.items c.loop-a.breaks.items c.add_need_breaks_of.new.breaks.items (items c.loop-a.a)
    c.loop-a.invariant c.in_ok-add_need_breaks_of.ensures refl

pub returns : goal.returns
returns c =
    let last : c.loop-a.a ≡ length c.args.spec.now.apps = omega arith in
    c.loop-a.invariant ∙ ap (λ n. c.args.breaks.now.items ++ gathered_below (need_breaks_of c.args.spec.now c.args.c) n) last
