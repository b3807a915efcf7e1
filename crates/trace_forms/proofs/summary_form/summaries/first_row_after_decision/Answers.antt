use Rattle.std.proofs.Common.{rules}
use Rattle.trace_forms.proofs.summary_form.summaries.first_row_after_decision.Goals as goal

pub returns-clause-value : goal.returns-clause-value
returns-clause-value c = search rules
