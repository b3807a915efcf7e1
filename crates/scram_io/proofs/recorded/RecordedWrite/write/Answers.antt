use Rattle.std.proofs.Common.{rules}
use Rattle.scram_io.proofs.recorded.RecordedWrite.write.Goals as goal

pub returns-clause-inner : goal.returns-clause-inner
returns-clause-inner c = search rules
