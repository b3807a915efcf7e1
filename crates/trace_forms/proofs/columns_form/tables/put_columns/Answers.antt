use Rattle.std.proofs.Common.{length}
use Rattle.scram_io.proofs.Puts.{cut_more, prints_more}
use Rattle.form_base.specs.Texts.{texts_below}
use Rattle.trace_forms.specs.columns_form.Table.{heads_text, row_line_text}
use Rattle.trace_forms.proofs.columns_form.tables.put_columns.Goals as goal

pub returns-in-Ok : goal.returns-in-Ok
returns-in-Ok g c =
    prints_more c.put_rows.result _ _ _ (heads_text c.args.spec.now)
    (texts_below (row_line_text c.args.spec.now c.args.rows.now) (length c.args.rows.now)) c.in-Ok.ensures c.put_rows.ensures

pub returns-in-Err : goal.returns-in-Err
returns-in-Err g c =
    cut_more _ _ (heads_text c.args.spec.now)
    (texts_below (row_line_text c.args.spec.now c.args.rows.now) (length c.args.rows.now)) c.in-Err.ensures
