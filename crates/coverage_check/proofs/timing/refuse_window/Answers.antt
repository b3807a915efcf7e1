use Rattle.std.proofs.Common.{rules}
use Rattle.coverage_check.proofs.timing.refuse_window.Goals as goal

pub returns-else-from : goal.returns-else-from
returns-else-from c = search rules
