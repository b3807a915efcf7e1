use Rattle.fault_family.proofs.StepsStand.{listed_steps_stand}
use Rattle.fault_family.proofs.laws.listed_steps_stand.Goals as goal

pub returns : goal.returns
returns c = listed_steps_stand
