use Rattle.std.proofs.Common.{rules}
use Rattle.spec_reading.proofs.configurations.read_listed_mode.Goals as goal

pub returns-in-None-clause-listed : goal.returns-in-None-clause-listed
returns-in-None-clause-listed c = search rules

pub returns-in-None-clause-value : goal.returns-in-None-clause-value
returns-in-None-clause-value c = search rules
