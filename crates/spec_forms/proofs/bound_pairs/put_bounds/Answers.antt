use Rattle.std.proofs.Common.{length, arith}
use Rattle.form_base.proofs.TextsBelow.{cut_below, printed_next}
use Rattle.spec_forms.specs.Bounds.{bounds_text_from}
use Rattle.spec_forms.proofs.bound_pairs.put_bounds.Goals as goal

pub returns-in-Err : goal.returns-in-Err
returns-in-Err g c =
    cut_below (bounds_text_from c.args.spec.now) c.loop-i.i (length c.args.spec.now.confs) _ _ _
    (omega (arith, c.loop-i-test.true, c.count_confs-i-end.ensures.value)) c.loop-i.invariant c.in-Err.ensures

pub loop-i-preserved : goal.loop-i-preserved
loop-i-preserved g c = printed_next (bounds_text_from c.args.spec.now) c.loop-i.i _ _ _ c.loop-i.invariant c.in-Ok.ensures
