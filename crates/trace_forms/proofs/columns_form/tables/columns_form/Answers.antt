use Rattle.std.proofs.Common.{[]}
use Rattle.form_base.proofs.Endings.{answered_prints, found_ends, put_taken}
use Rattle.trace_forms.specs.columns_form.Table.{columns_text}
use Rattle.trace_forms.proofs.columns_form.tables.columns_form.Goals as goal

pub returns-in-Ok : goal.returns-in-Ok
returns-in-Ok g c =
    rw (c.status_after.ensures)
    (found_ends _ _ _ _ _ _ _ _ (c.in-Ok.ensures.reads columns_text)
    (answered_prints (columns_text c.in-Ok.flight.spec c.in-Ok.flight.flown.rows []) _ _ _ (put_taken c.put_columns-put.result 0 _ _ _ (rw (c.items.ensures) at c.put_columns-put.ensures))))
