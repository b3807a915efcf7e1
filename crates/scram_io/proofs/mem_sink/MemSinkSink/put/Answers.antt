use Rattle.std.proofs.Common.{rules}
use Rattle.scram_io.proofs.mem_sink.MemSinkSink.put.Goals as goal

pub returns-then-listed-clause-after : goal.returns-then-listed-clause-after
returns-then-listed-clause-after c = search rules

pub returns-clause-after : goal.returns-clause-after
returns-clause-after c = search rules
