use Rattle.std.proofs.Common.{rules}
use Rattle.scram_kernel.proofs.drawing.slot_of.Goals as goal

pub returns-in-Some : goal.returns-in-Some
returns-in-Some c = search rules
