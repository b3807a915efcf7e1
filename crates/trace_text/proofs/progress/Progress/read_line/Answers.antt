use Rattle.std.proofs.Common.{rules}
use Rattle.trace_text.proofs.progress.Progress.read_line.Goals as goal

pub returns-in-Over : goal.returns-in-Over
returns-in-Over c = search rules
