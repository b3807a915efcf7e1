use Rattle.fault_family.proofs.InOrder.{families_are_ordered}
use Rattle.fault_family.proofs.laws.families_are_ordered.Goals as goal

pub returns : goal.returns
returns c = families_are_ordered
