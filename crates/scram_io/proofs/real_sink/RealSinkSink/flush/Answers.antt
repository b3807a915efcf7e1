use Rattle.std.proofs.Common.{rules}
use Rattle.scram_io.proofs.real_sink.RealSinkSink.flush.Goals as goal

pub returns-in-Err : goal.returns-in-Err
returns-in-Err c = search rules
