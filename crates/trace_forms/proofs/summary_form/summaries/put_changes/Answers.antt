use Rattle.std.proofs.Common.{arith}
use Rattle.form_base.proofs.TextsBelow.{cut_below, printed_next}
use Rattle.std.specs.Prelude.{ℕ, ◌+◌}
use Rattle.trace_forms.specs.summary_form.Summary.{change_text, first_row_after_decision, rows_after_decision}
use Rattle.trace_forms.proofs.summary_form.summaries.put_changes.Goals as goal

pub returns-in-Err : goal.returns-in-Err
returns-in-Err g c =
    cut_below (λ (j : ℕ). change_text c.args.spec.now c.args.rows.now (first_row_after_decision c.args.rows.now c.args.report.now + j)) c.loop-j.j (rows_after_decision c.args.rows.now c.args.report.now) _ _ _ (omega (arith, c.loop-j-test.true, c.rows_after_decision-j-end.ensures.value)) c.loop-j.invariant (rw (c.first_row_after_decision-first.ensures.value) at c.in-Err.ensures)

pub loop-j-preserved : goal.loop-j-preserved
loop-j-preserved g c = printed_next (λ (j : ℕ). change_text c.args.spec.now c.args.rows.now (first_row_after_decision c.args.rows.now c.args.report.now + j)) c.loop-j.j _ _ _ c.loop-j.invariant (rw (c.first_row_after_decision-first.ensures.value) at c.in-Ok.ensures)
