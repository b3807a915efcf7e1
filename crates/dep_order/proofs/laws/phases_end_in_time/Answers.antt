use Rattle.dep_order.proofs.Offsets.{phases_in_time}
use Rattle.dep_order.proofs.laws.phases_end_in_time.Goals as goal

pub returns : goal.returns
returns c = phases_in_time
