use Rattle.std.proofs.Common.{rules}
use Rattle.kind_table.proofs.names.names_of_kinds.Goals as goal

pub returns : goal.returns
returns c = search rules
