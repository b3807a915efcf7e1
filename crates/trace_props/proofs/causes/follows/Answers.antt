use Rattle.std.proofs.Common.{rules}
use Rattle.trace_props.proofs.causes.follows.Goals as goal

pub returns-else-before-read : goal.returns-else-before-read
returns-else-before-read c = search rules
