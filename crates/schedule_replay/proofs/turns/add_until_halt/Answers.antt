use Rattle.std.proofs.Common.{arith}
use Rattle.std.proofs.lemmas.Grind.{common_steps}
use Rattle.schedule_replay.proofs.turns.add_until_halt.Goals as goal

pub returns-in_ok-add : goal.returns-in_ok-add
returns-in_ok-add c = grind (arith, common_steps)
