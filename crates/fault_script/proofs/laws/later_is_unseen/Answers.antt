use Rattle.fault_script.proofs.Unseen.{later_is_unseen as law}
use Rattle.fault_script.proofs.laws.later_is_unseen.Goals as goal

pub returns : goal.returns
returns c = law
