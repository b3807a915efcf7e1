use Rattle.std.proofs.Common.{arith}
use Rattle.std.proofs.lemmas.Grind.{common_steps}
use Rattle.dep_order.proofs.ranks.rank_after.Goals as goal

pub loop-needed-preserved : goal.loop-needed-preserved
loop-needed-preserved c = grind (arith, common_steps)
