use Rattle.std.proofs.Common.{rules}
use Rattle.mission_gen.proofs.walks.last_block.Goals as goal

pub returns-clause-value : goal.returns-clause-value
returns-clause-value c = search rules
