use Rattle.std.proofs.Common.{rules}
use Rattle.trace_props.proofs.demanded.breaks_after.Goals as goal

pub returns-else-frames-saturating_sub : goal.returns-else-frames-saturating_sub
returns-else-frames-saturating_sub c = search rules
