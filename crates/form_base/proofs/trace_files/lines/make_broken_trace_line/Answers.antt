use Rattle.std.proofs.Common.{rules}
use Rattle.form_base.proofs.trace_files.lines.make_broken_trace_line.Goals as goal

pub returns : goal.returns
returns c = search rules
