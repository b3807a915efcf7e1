use Rattle.std.proofs.Common.{rules}
use Rattle.trace_text.proofs.trace_reading.finish.Goals as goal

pub returns-in-Apps : goal.returns-in-Apps
returns-in-Apps c = search rules
