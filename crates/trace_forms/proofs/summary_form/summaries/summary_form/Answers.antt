use Rattle.form_base.proofs.Endings.{answered_prints, found_ends, put_taken}
use Rattle.trace_forms.specs.summary_form.Summary.{summary_text}
use Rattle.trace_forms.proofs.summary_form.summaries.summary_form.Goals as goal

pub returns-in-Ok : goal.returns-in-Ok
returns-in-Ok g c =
    rw (c.status_after-status.ensures)
    (found_ends _ _ _ _ _ _ _ _ (c.in-Ok.ensures.reads summary_text)
    (answered_prints (summary_text c.in-Ok.flight.spec c.in-Ok.flight.flown.rows c.in-Ok.flight.flown.reports) _ _ _ (put_taken c.put_summary.result 0 _ _ _ c.put_summary.ensures)))
