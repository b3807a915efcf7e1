use Rattle.std.proofs.Common.{rules}
use Rattle.word_table.proofs.loads.clear_from.Goals as goal

pub loop-i-init : goal.loop-i-init
loop-i-init c = search rules
