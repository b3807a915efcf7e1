use Rattle.std.proofs.Common.{rules}
use Rattle.choice_table.proofs.numbering.up_beside.Goals as goal

pub overflow_cast-result : goal.overflow_cast-result
overflow_cast-result c = search rules
