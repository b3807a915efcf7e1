use Rattle.std.proofs.Common.{arith}
use Rattle.std.proofs.lemmas.Grind.{common_steps}
use Rattle.mission_gen.proofs.walks.add_turns.Goals as goal

pub returns : goal.returns
returns c = grind (arith, common_steps)
