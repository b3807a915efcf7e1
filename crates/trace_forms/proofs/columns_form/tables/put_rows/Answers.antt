use Rattle.std.proofs.Common.{arith, length}
use Rattle.form_base.proofs.TextsBelow.{cut_below, printed_next}
use Rattle.trace_forms.specs.columns_form.Table.{row_line_text}
use Rattle.trace_forms.proofs.columns_form.tables.put_rows.Goals as goal

pub returns-in-Err : goal.returns-in-Err
returns-in-Err g c =
    cut_below (row_line_text c.args.spec.now c.args.rows.now) c.loop-k.k (length c.args.rows.now) _ _ _ (omega (arith, c.loop-k-test.true)) c.loop-k.invariant c.in-Err.ensures

pub loop-k-preserved : goal.loop-k-preserved
loop-k-preserved g c = printed_next (row_line_text c.args.spec.now c.args.rows.now) c.loop-k.k _ _ _ c.loop-k.invariant c.in-Ok.ensures
