use Rattle.scram_types.proofs.Placed.{read_within}
use Rattle.trace_forms.proofs.summary_form.summaries.put_reconfiguration.Goals as goal

pub returns-in-Some : goal.returns-in-Some
returns-in-Some g c =
    rw (read_within c.args.reports.now c.args.n c.in-Some.report.now c.in-Some.ensures.lookup.0 c.in-Some.ensures.lookup.1, ← c.report_before.ensures) c.put_report.ensures
