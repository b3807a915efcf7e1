use Rattle.std.proofs.Common.{rules}
use Rattle.fault_script.proofs.assumption.outside_at.Goals as goal

pub returns : goal.returns
returns c = search rules
