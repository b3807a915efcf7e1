use Rattle.condition_breaks.proofs.FirstShown.{first_is_shown}
use Rattle.condition_breaks.proofs.laws.first_is_shown.Goals as goal

pub returns : goal.returns
returns c = first_is_shown
