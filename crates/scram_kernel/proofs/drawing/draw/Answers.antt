use Rattle.std.proofs.Common.{rules}
use Rattle.scram_kernel.proofs.drawing.draw.Goals as goal

pub returns-clause-areas : goal.returns-clause-areas
returns-clause-areas c = search rules
