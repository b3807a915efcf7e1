use Rattle.fill_form.proofs.Accepted.{filled_is_accepted}
use Rattle.fill_form.proofs.laws.filled_is_accepted.Goals as goal

pub returns : goal.returns
returns c = filled_is_accepted
