use Rattle.std.proofs.Common.{rules}
use Rattle.kernel_pair.proofs.nexts.plan_noted.Goals as goal

pub returns-else-made-procs-4 : goal.returns-else-made-procs-4
returns-else-made-procs-4 c = search rules

pub returns-then-made-procs-4 : goal.returns-then-made-procs-4
returns-then-made-procs-4 c = search rules

pub returns-then-may_meet : goal.returns-then-may_meet
returns-then-may_meet c = search rules
