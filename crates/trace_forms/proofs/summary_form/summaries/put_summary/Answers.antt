use Rattle.scram_io.proofs.Puts.{cut_more, prints_more}
use Rattle.trace_forms.specs.summary_form.Lines.{flight_line}
use Rattle.trace_forms.specs.summary_form.Summary.{text_after_flight_line}
use Rattle.trace_forms.proofs.summary_form.summaries.put_summary.Goals as goal

pub returns-in-Ok : goal.returns-in-Ok
returns-in-Ok g c =
    prints_more c.put_after_flight_line.result _ _ _ (flight_line c.args.flown.now.rows c.args.flown.now.reports)
    (text_after_flight_line c.args.spec.now c.args.flown.now.rows c.args.flown.now.reports) (rw (c.as_bytes.ensures, c.make_flight_line.ensures) at c.in-Ok.ensures) (rw (c.items-in-Ok.ensures, c.items.ensures) at c.put_after_flight_line.ensures)

pub returns-in-Err : goal.returns-in-Err
returns-in-Err g c =
    cut_more _ _ (flight_line c.args.flown.now.rows c.args.flown.now.reports)
    (text_after_flight_line c.args.spec.now c.args.flown.now.rows c.args.flown.now.reports) (rw (c.as_bytes.ensures, c.make_flight_line.ensures) at c.in-Err.ensures)
