use Rattle.std.proofs.Common.{rules}
use Rattle.trace_forms.proofs.summary_form.lines.make_app_line.Goals as goal

pub returns : goal.returns
returns c = search rules
