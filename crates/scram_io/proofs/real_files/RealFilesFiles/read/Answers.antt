use Rattle.std.proofs.Common.{rules}
use Rattle.scram_io.proofs.real_files.RealFilesFiles.read.Goals as goal

pub returns-else-is_err-clause-grew : goal.returns-else-is_err-clause-grew
returns-else-is_err-clause-grew c = search rules
