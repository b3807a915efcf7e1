use Rattle.std.proofs.Common.{arith}
use Rattle.std.proofs.lemmas.Grind.{common_steps}
use Rattle.condition_breaks.proofs.ranges.hull_of.Goals as goal

pub loop-way-preserved : goal.loop-way-preserved
loop-way-preserved c = grind (arith, common_steps)
