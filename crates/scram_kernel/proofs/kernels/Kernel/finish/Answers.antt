use Rattle.std.proofs.Common.{rules}
use Rattle.scram_kernel.proofs.kernels.Kernel.finish.Goals as goal

pub returns-clause-reports : goal.returns-clause-reports
returns-clause-reports c = search rules
