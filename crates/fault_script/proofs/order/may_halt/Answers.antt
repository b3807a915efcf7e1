use Rattle.std.proofs.Common.{rules}
use Rattle.fault_script.proofs.order.may_halt.Goals as goal

pub returns-in-1 : goal.returns-in-1
returns-in-1 c = search rules
