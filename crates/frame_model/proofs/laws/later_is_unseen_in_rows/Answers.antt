use Rattle.frame_model.proofs.Unseen.{unseen_later}
use Rattle.frame_model.proofs.laws.later_is_unseen_in_rows.Goals as goal

pub returns : goal.returns
returns c = unseen_later c.later_is_unseen.ensures
