use Rattle.scram_io.proofs.Puts.{cut_more, prints_more}
use Rattle.trace_forms.specs.summary_form.Lines.{reconfiguration_line}
use Rattle.trace_forms.specs.summary_form.Summary.{changes_text}
use Rattle.trace_forms.proofs.summary_form.summaries.put_report.Goals as goal

pub returns-in-Ok : goal.returns-in-Ok
returns-in-Ok g c =
    prints_more c.put_changes.result _ _ _ (reconfiguration_line c.args.spec.now c.args.rows.now c.args.earlier c.args.report.now)
    (changes_text c.args.spec.now c.args.rows.now c.args.report.now) (rw (c.as_bytes.ensures, c.make_reconfiguration_line.ensures) at c.in-Ok.ensures) c.put_changes.ensures

pub returns-in-Err : goal.returns-in-Err
returns-in-Err g c =
    cut_more _ _ (reconfiguration_line c.args.spec.now c.args.rows.now c.args.earlier c.args.report.now)
    (changes_text c.args.spec.now c.args.rows.now c.args.report.now) (rw (c.as_bytes.ensures, c.make_reconfiguration_line.ensures) at c.in-Err.ensures)
