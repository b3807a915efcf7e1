use Rattle.frame_model.proofs.Older.{chooses_anew}
use Rattle.frame_model.proofs.laws.retarget_chooses_anew.Goals as goal

pub returns : goal.returns
returns c = chooses_anew
