use Rattle.std.proofs.Common.{◌≡◌, ap, arith, length, refl, ◌++◌, ◌∙◌}
use Rattle.condition_breaks.specs.Breaks.{load_break}
use Rattle.condition_breaks.specs.Lists.{gathered_below}
use Rattle.condition_breaks.proofs.Gathering.{gathered_next}
use Rattle.condition_breaks.proofs.form.add_load_breaks_in.Goals as goal

pub loop-p-preserved : goal.loop-p-preserved
loop-p-preserved c =
    let items = load_break c.args.spec.now c.args.c in
    gathered_next items c.loop-p.p c.args.breaks.now.items c.loop-p.breaks.items c.add_load_break.new.breaks.items (items c.loop-p.p)
    c.loop-p.invariant c.in_ok-add_load_break.ensures refl

pub returns : goal.returns
returns c =
    let last : c.loop-p.p ≡ length c.args.spec.now.procs = omega arith in
    c.loop-p.invariant ∙ ap (λ n. c.args.breaks.now.items ++ gathered_below (load_break c.args.spec.now c.args.c) n) last
