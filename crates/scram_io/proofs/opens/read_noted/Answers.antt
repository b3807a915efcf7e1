use Rattle.std.proofs.Common.{rules}
use Rattle.scram_io.proofs.opens.read_noted.Goals as goal

pub returns-clause-whole : goal.returns-clause-whole
returns-clause-whole c = search rules
