use Rattle.std.proofs.Common.{rules}
use Rattle.kernel_pair.proofs.nexts.may_meet.Goals as goal

pub returns-then-from-ready : goal.returns-then-from-ready
returns-then-from-ready c = search rules
