use Rattle.std.proofs.Common.{arith}
use Rattle.std.proofs.lemmas.Grind.{common_steps}
use Rattle.scram_types.proofs.specification.AppSpec.mode.Goals as goal

pub returns-then-listed-mode : goal.returns-then-listed-mode
returns-then-listed-mode c = grind (arith, common_steps)
