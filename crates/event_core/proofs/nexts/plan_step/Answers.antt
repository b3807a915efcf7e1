use Rattle.std.proofs.Common.{rules}
use Rattle.event_core.proofs.nexts.plan_step.Goals as goal

pub returns-else-step-looks-4 : goal.returns-else-step-looks-4
returns-else-step-looks-4 c = search rules
