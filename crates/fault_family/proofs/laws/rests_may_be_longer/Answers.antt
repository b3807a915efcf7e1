use Rattle.fault_family.proofs.RestingFlights.{rests_may_be_longer}
use Rattle.fault_family.proofs.laws.rests_may_be_longer.Goals as goal

pub returns : goal.returns
returns c = rests_may_be_longer
