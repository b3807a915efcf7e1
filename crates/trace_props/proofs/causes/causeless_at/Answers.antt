use Rattle.std.proofs.Common.{rules}
use Rattle.trace_props.proofs.causes.causeless_at.Goals as goal

pub returns-else-has_cause : goal.returns-else-has_cause
returns-else-has_cause c = search rules
