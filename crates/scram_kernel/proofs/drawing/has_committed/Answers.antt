use Rattle.std.proofs.Common.{rules}
use Rattle.scram_kernel.proofs.drawing.has_committed.Goals as goal

pub returns : goal.returns
returns c = search rules
