use Rattle.std.proofs.Common.{arith, length}
use Rattle.form_base.proofs.TextsBelow.{cut_below, printed_next}
use Rattle.trace_forms.specs.summary_form.Summary.{reconfiguration_text}
use Rattle.trace_forms.proofs.summary_form.summaries.put_reconfigurations.Goals as goal

pub returns-in-Err : goal.returns-in-Err
returns-in-Err g c =
    cut_below (reconfiguration_text c.args.spec.now c.args.rows.now c.args.reports.now) c.loop-n.n (length c.args.reports.now) _ _ _ (omega (arith, c.loop-n-test.true)) c.loop-n.invariant c.in-Err.ensures

pub loop-n-preserved : goal.loop-n-preserved
loop-n-preserved g c = printed_next (reconfiguration_text c.args.spec.now c.args.rows.now c.args.reports.now) c.loop-n.n _ _ _ c.loop-n.invariant c.in-Ok.ensures
