use Rattle.std.proofs.Common.{rules}
use Rattle.spec_reading.proofs.demands.read_on_mode.Goals as goal

pub returns-clause-more : goal.returns-clause-more
returns-clause-more c = search rules

pub returns-clause-value : goal.returns-clause-value
returns-clause-value c = search rules

pub returns-then-has-clause-value : goal.returns-then-has-clause-value
returns-then-has-clause-value c = search rules
