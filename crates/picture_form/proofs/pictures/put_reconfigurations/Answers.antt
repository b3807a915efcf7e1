use Rattle.std.proofs.Common.{arith, length}
use Rattle.form_base.proofs.TextsBelow.{cut_below, printed_next}
use Rattle.picture_form.specs.Reconfigurations.{reconfiguration_boxes}
use Rattle.picture_form.proofs.pictures.put_reconfigurations.Goals as goal

pub returns-in-Err : goal.returns-in-Err
returns-in-Err g c =
    cut_below (reconfiguration_boxes c.args.spec.now c.args.sheet c.args.reports.now) c.loop-n.n (length c.args.reports.now) _ _ _ (omega (arith, c.loop-n-test.true)) c.loop-n.invariant (rw (c.as_bytes.ensures, c.make_reconfiguration.ensures) at c.in-Err.ensures)

pub loop-n-preserved : goal.loop-n-preserved
loop-n-preserved g c = printed_next (reconfiguration_boxes c.args.spec.now c.args.sheet c.args.reports.now) c.loop-n.n _ _ _ c.loop-n.invariant (rw (c.as_bytes.ensures, c.make_reconfiguration.ensures) at c.in-Ok.ensures)
