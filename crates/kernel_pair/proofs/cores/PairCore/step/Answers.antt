use Rattle.std.proofs.Common.{rules}
use Rattle.kernel_pair.proofs.cores.PairCore.step.Goals as goal

pub make-requires : goal.make-requires
make-requires c = search rules

pub returns-clause-next : goal.returns-clause-next
returns-clause-next c = search rules
