use Rattle.std.proofs.Common.{rules}
use Rattle.event_core.proofs.nexts.next_from.Goals as goal

pub returns-in-Halted : goal.returns-in-Halted
returns-in-Halted c = search rules
