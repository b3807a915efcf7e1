use Rattle.std.proofs.Common.{rules}
use Rattle.fault_family.proofs.within.has_too_many_down.Goals as goal

pub returns : goal.returns
returns c = search rules
