use Rattle.std.proofs.Common.{rules}
use Rattle.kind_table.proofs.table.kind_or_last.Goals as goal

pub returns : goal.returns
returns c = search rules
