use Rattle.std.proofs.Common.{arith}
use Rattle.std.proofs.lemmas.Grind.{common_steps}
use Rattle.fault_script.proofs.times.has_restarted.Goals as goal

pub loop-restart-preserved : goal.loop-restart-preserved
loop-restart-preserved c = grind (arith, common_steps)
