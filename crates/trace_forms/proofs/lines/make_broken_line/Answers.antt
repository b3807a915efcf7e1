use Rattle.std.proofs.Common.{rules}
use Rattle.trace_forms.proofs.lines.make_broken_line.Goals as goal

pub returns : goal.returns
returns c = search rules
