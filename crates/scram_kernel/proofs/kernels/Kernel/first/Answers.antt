use Rattle.std.proofs.Common.{rules}
use Rattle.scram_kernel.proofs.kernels.Kernel.first.Goals as goal

pub returns : goal.returns
returns c = search rules
