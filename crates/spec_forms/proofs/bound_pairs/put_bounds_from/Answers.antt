use Rattle.std.proofs.Common.{rules, length, arith}
use Rattle.form_base.proofs.TextsBelow.{cut_below, printed_next}
use Rattle.spec_forms.specs.Bounds.{bound_text_of}
use Rattle.spec_forms.proofs.bound_pairs.put_bounds_from.Goals as goal

pub returns-in-Err : goal.returns-in-Err
returns-in-Err g c =
    cut_below (bound_text_of c.args.spec.now c.args.from.0) c.loop-j.j (length c.args.spec.now.confs) _ _ _
    (omega (arith, c.loop-j-test.true, c.count_confs-j-end.ensures.value)) c.loop-j.invariant c.in-Err.ensures

pub loop-j-preserved : goal.loop-j-preserved
loop-j-preserved g c = printed_next (bound_text_of c.args.spec.now c.args.from.0) c.loop-j.j _ _ _ c.loop-j.invariant c.in-Ok.ensures

pub loop-j-init : goal.loop-j-init
loop-j-init c = search rules
