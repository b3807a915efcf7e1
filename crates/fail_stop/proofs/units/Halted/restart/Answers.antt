use Rattle.std.proofs.Common.{rules}
use Rattle.fail_stop.proofs.units.Halted.restart.Goals as goal

pub returns-clause-proc : goal.returns-clause-proc
returns-clause-proc c = search rules
