use Rattle.std.proofs.Common.{rules}
use Rattle.spec_reading.proofs.bounds.read_new_target.Goals as goal

pub returns-else-is_bounded-clause-new : goal.returns-else-is_bounded-clause-new
returns-else-is_bounded-clause-new c = search rules

pub returns-else-is_bounded-clause-value : goal.returns-else-is_bounded-clause-value
returns-else-is_bounded-clause-value c = search rules
