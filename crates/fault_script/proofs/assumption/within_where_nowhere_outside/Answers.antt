use Rattle.fault_script.proofs.Assuming.{leaves_nowhere}
use Rattle.fault_script.proofs.assumption.within_where_nowhere_outside.Goals as goal

pub returns : goal.returns
returns c = leaves_nowhere
