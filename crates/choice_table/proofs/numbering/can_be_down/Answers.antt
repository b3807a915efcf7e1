use Rattle.std.proofs.Common.{rules}
use Rattle.choice_table.proofs.numbering.can_be_down.Goals as goal

pub returns : goal.returns
returns c = search rules
