use Rattle.scram_io.proofs.Puts.{cut_more, prints_more}
use Rattle.trace_forms.specs.columns_form.Heads.{row_head}
use Rattle.trace_forms.specs.columns_form.Table.{heads_end}
use Rattle.trace_forms.proofs.columns_form.tables.put_heads.Goals as goal

pub returns-in-Ok : goal.returns-in-Ok
returns-in-Ok g c =
    prints_more c.put_heads_end.result _ _ _ (row_head c.args.spec.now)
    (heads_end c.args.spec.now) (rw (c.as_bytes.ensures, c.make_row_head.ensures) at c.in-Ok.ensures) c.put_heads_end.ensures

pub returns-in-Err : goal.returns-in-Err
returns-in-Err g c =
    cut_more _ _ (row_head c.args.spec.now)
    (heads_end c.args.spec.now) (rw (c.as_bytes.ensures, c.make_row_head.ensures) at c.in-Err.ensures)
