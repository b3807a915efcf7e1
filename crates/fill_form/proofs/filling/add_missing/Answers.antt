use Rattle.std.proofs.Common.{◌≡◌, ◌+◌, suc, ap, append_assoc, arith, length, ◌++◌, ◌∙◌}
use Rattle.fill_form.specs.Filling.{bounds_below, missing_from}
use Rattle.fill_form.proofs.filling.add_missing.Goals as goal

pub loop-i-preserved : goal.loop-i-preserved
loop-i-preserved c =
    let l = c.loop-i in
    let bounds = missing_from c.args.spec.now in
    let next : l.i + 1 ≡ suc l.i = omega arith in
    rw next (c.in_ok-add_missing_from.ensures ∙ ap (λ so_far. so_far ++ bounds l.i) l.invariant ∙ append_assoc c.args.bounds.now.items (bounds_below bounds l.i) (bounds l.i))

pub returns : goal.returns
returns c =
    let last : c.loop-i.i ≡ length c.args.spec.now.confs = omega arith in
    c.loop-i.invariant ∙ ap (λ n. c.args.bounds.now.items ++ bounds_below (missing_from c.args.spec.now) n) last
