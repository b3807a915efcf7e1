use Rattle.std.proofs.Common.{rules}
use Rattle.trace_props.proofs.targets.late_at.Goals as goal

pub returns-else-saturating_sub-bound : goal.returns-else-saturating_sub-bound
returns-else-saturating_sub-bound c = search rules
