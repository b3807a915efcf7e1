use Rattle.condition_breaks.proofs.Hulls.{needed_is_least}
use Rattle.condition_breaks.proofs.laws.needed_is_least.Goals as goal

pub returns : goal.returns
returns c = needed_is_least
