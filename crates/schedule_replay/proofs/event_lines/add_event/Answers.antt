use Rattle.std.proofs.Common.{arith}
use Rattle.std.proofs.lemmas.Grind.{common_steps}
use Rattle.schedule_replay.proofs.event_lines.add_event.Goals as goal

pub returns-in-Look-clause-text : goal.returns-in-Look-clause-text
returns-in-Look-clause-text c = grind (arith, common_steps)
