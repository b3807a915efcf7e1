use Rattle.std.proofs.Common.{◌≡◌, ◌+◌, suc, ap, append_assoc, arith, length, ◌++◌, ◌∙◌}
use Rattle.fill_form.specs.Filling.{bounds_below, missing_bound}
use Rattle.fill_form.proofs.filling.add_missing_from.Goals as goal

pub loop-j-preserved : goal.loop-j-preserved
loop-j-preserved c =
    let l = c.loop-j in
    let bounds = missing_bound c.args.spec.now c.args.from.0 in
    let next : l.j + 1 ≡ suc l.j = omega arith in
    rw next (c.in_ok-add_missing_bound.ensures ∙ ap (λ so_far. so_far ++ bounds l.j) l.invariant ∙ append_assoc c.args.bounds.now.items (bounds_below bounds l.j) (bounds l.j))

pub returns : goal.returns
returns c =
    let last : c.loop-j.j ≡ length c.args.spec.now.confs = omega arith in
    c.loop-j.invariant ∙ ap (λ n. c.args.bounds.now.items ++ bounds_below (missing_bound c.args.spec.now c.args.from.0) n) last
