use Rattle.std.proofs.Common.{rules}
use Rattle.scram_io.proofs.mem_files.MemFilesFiles.read.Goals as goal

pub returns-then-bytes-limit-clause-too_long : goal.returns-then-bytes-limit-clause-too_long
returns-then-bytes-limit-clause-too_long c = search rules

pub returns-clause-after : goal.returns-clause-after
returns-clause-after c = search rules
