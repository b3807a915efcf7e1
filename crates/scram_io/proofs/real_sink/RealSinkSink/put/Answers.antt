use Rattle.std.proofs.Common.{rules}
use Rattle.scram_io.proofs.real_sink.RealSinkSink.put.Goals as goal

pub returns-else-is_err : goal.returns-else-is_err
returns-else-is_err c = search rules
