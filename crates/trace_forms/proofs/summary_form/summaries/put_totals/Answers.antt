use Rattle.std.proofs.Common.{length}
use Rattle.form_base.specs.Texts.{texts_below}
use Rattle.scram_io.proofs.Puts.{cut_more, prints_more}
use Rattle.trace_forms.specs.summary_form.Lines.{world_line}
use Rattle.trace_forms.specs.summary_form.Summary.{app_text}
use Rattle.trace_forms.proofs.summary_form.summaries.put_totals.Goals as goal

pub returns-in-Ok : goal.returns-in-Ok
returns-in-Ok g c =
    prints_more c.put.result _ _ _ (texts_below (app_text c.args.spec.now c.args.rows.now) (length c.args.spec.now.apps))
    (world_line c.args.rows.now) c.in-Ok.ensures (rw (c.as_bytes.ensures, c.make_world_line.ensures) at c.put.ensures)

pub returns-in-Err : goal.returns-in-Err
returns-in-Err g c =
    cut_more _ _ (texts_below (app_text c.args.spec.now c.args.rows.now) (length c.args.spec.now.apps)) (world_line c.args.rows.now) c.in-Err.ensures
