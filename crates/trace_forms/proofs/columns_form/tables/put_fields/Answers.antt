use Rattle.scram_io.proofs.Puts.{cut_more, prints_more}
use Rattle.trace_forms.specs.columns_form.Fields.{row_fields}
use Rattle.trace_forms.specs.columns_form.Table.{fields_end}
use Rattle.trace_forms.proofs.columns_form.tables.put_fields.Goals as goal

pub returns-in-Ok : goal.returns-in-Ok
returns-in-Ok g c =
    prints_more c.put_fields_end.result _ _ _ (row_fields c.args.spec.now c.args.row.now)
    (fields_end c.args.spec.now c.args.row.now) (rw (c.as_bytes.ensures, c.make_row_fields.ensures) at c.in-Ok.ensures) c.put_fields_end.ensures

pub returns-in-Err : goal.returns-in-Err
returns-in-Err g c =
    cut_more _ _ (row_fields c.args.spec.now c.args.row.now)
    (fields_end c.args.spec.now c.args.row.now) (rw (c.as_bytes.ensures, c.make_row_fields.ensures) at c.in-Err.ensures)
