use Rattle.std.proofs.Common.{rules}
use Rattle.trace_props.proofs.breaks.broken_at.Goals as goal

pub returns-in-Some : goal.returns-in-Some
returns-in-Some c = search rules
