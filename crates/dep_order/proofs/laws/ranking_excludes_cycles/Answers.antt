use Rattle.dep_order.proofs.Rankings.{no_cycle}
use Rattle.dep_order.proofs.laws.ranking_excludes_cycles.Goals as goal

pub returns : goal.returns
returns c = no_cycle
