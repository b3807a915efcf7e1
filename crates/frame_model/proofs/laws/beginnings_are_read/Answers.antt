use Rattle.frame_model.proofs.Beginnings.{beginnings}
use Rattle.frame_model.proofs.laws.beginnings_are_read.Goals as goal

pub returns : goal.returns
returns c = beginnings
