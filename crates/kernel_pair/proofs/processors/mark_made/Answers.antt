use Rattle.std.proofs.Common.{rules}
use Rattle.kernel_pair.proofs.processors.mark_made.Goals as goal

pub returns-then-reaches_mark : goal.returns-then-reaches_mark
returns-then-reaches_mark c = search rules
