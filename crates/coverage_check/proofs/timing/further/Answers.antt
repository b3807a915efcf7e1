use Rattle.std.proofs.Common.{rules}
use Rattle.coverage_check.proofs.timing.further.Goals as goal

pub returns-in-Settle-clause-value : goal.returns-in-Settle-clause-value
returns-in-Settle-clause-value c = search rules
