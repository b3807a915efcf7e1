use Rattle.std.proofs.Common.{rules}
use Rattle.fault_family.proofs.scripts.is_halt_before.Goals as goal

pub returns-then-proc-of : goal.returns-then-proc-of
returns-then-proc-of c = search rules
