use Rattle.std.proofs.Common.{rules}
use Rattle.scram_kernel.proofs.drawing.keeper_on.Goals as goal

pub returns-else-has_committed : goal.returns-else-has_committed
returns-else-has_committed c = search rules
