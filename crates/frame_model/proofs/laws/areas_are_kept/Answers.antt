use Rattle.frame_model.proofs.Keeping.{areas_kept}
use Rattle.frame_model.proofs.laws.areas_are_kept.Goals as goal

pub returns : goal.returns
returns c = areas_kept
