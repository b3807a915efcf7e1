use Rattle.std.proofs.Common.{rules}
use Rattle.kernel_pair.proofs.units.UnitState.halt.Goals as goal

pub returns : goal.returns
returns c = search rules
