use Rattle.std.proofs.Common.{rules}
use Rattle.spec_reading.proofs.intervals.read_ends.Goals as goal

pub returns-else-least-greatest-clause-value : goal.returns-else-least-greatest-clause-value
returns-else-least-greatest-clause-value c = search rules

pub returns-in_err-greatest-clause-value : goal.returns-in_err-greatest-clause-value
returns-in_err-greatest-clause-value c = search rules
