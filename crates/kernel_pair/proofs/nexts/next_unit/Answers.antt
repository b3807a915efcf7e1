use Rattle.std.proofs.Common.{rules}
use Rattle.kernel_pair.proofs.nexts.next_unit.Goals as goal

pub returns-else-stops_at : goal.returns-else-stops_at
returns-else-stops_at c = search rules

pub returns-then-stops_at : goal.returns-then-stops_at
returns-then-stops_at c = search rules
