use Rattle.std.proofs.Common.{rules}
use Rattle.trace_text.proofs.progress.Progress.read_report_line.Goals as goal

pub returns : goal.returns
returns c = search rules
