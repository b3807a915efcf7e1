use Rattle.std.proofs.Common.{rules}
use Rattle.dep_order.proofs.timetables.offset_after.Goals as goal

pub loop-b-preserved : goal.loop-b-preserved
loop-b-preserved c = search rules
