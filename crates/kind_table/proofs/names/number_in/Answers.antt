use Rattle.std.proofs.Common.{rules}
use Rattle.kind_table.proofs.names.number_in.Goals as goal

pub loop-name-init : goal.loop-name-init
loop-name-init c = search rules
