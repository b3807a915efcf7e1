use Rattle.std.proofs.Common.{rules}
use Rattle.dep_order.proofs.timetables.precedes.Goals as goal

pub returns-in-Init : goal.returns-in-Init
returns-in-Init c = search rules
