use Rattle.std.proofs.Common.{rules}
use Rattle.scram_kernel.proofs.drawing.draw_area.Goals as goal

pub returns-then-has_committed : goal.returns-then-has_committed
returns-then-has_committed c = search rules
