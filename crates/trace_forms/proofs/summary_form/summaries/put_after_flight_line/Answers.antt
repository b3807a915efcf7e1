use Rattle.std.proofs.Common.{length}
use Rattle.form_base.specs.Texts.{texts_below}
use Rattle.scram_io.proofs.Puts.{cut_more, prints_more}
use Rattle.trace_forms.specs.summary_form.Summary.{reconfiguration_text, totals_text}
use Rattle.trace_forms.proofs.summary_form.summaries.put_after_flight_line.Goals as goal

pub returns-in-Ok : goal.returns-in-Ok
returns-in-Ok g c =
    prints_more c.put_totals.result _ _ _ (texts_below (reconfiguration_text c.args.spec.now c.args.rows.now c.args.reports.now) (length c.args.reports.now))
    (totals_text c.args.spec.now c.args.rows.now) c.in-Ok.ensures c.put_totals.ensures

pub returns-in-Err : goal.returns-in-Err
returns-in-Err g c =
    cut_more _ _ (texts_below (reconfiguration_text c.args.spec.now c.args.rows.now c.args.reports.now) (length c.args.reports.now))
    (totals_text c.args.spec.now c.args.rows.now) c.in-Err.ensures
