use Rattle.std.proofs.Common.{rules}
use Rattle.mission_gen.proofs.walks.add_block.Goals as goal

pub returns : goal.returns
returns c = search rules
