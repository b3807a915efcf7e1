use Rattle.condition_breaks.proofs.Standing.{none_is_left_out}
use Rattle.condition_breaks.proofs.laws.none_is_left_out.Goals as goal

pub returns : goal.returns
returns c = none_is_left_out
