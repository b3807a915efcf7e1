use Rattle.condition_breaks.proofs.Refusals.{refusal_is_first}
use Rattle.condition_breaks.proofs.laws.refusal_is_first.Goals as goal

pub returns : goal.returns
returns c = refusal_is_first
