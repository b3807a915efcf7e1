use Rattle.dep_order.proofs.Offsets.{offsets_are_sums}
use Rattle.dep_order.proofs.laws.offsets_are_greatest_sums.Goals as goal

pub returns : goal.returns
returns c = offsets_are_sums
