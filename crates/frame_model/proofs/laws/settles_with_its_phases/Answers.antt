use Rattle.frame_model.proofs.Older.{settles}
use Rattle.frame_model.proofs.laws.settles_with_its_phases.Goals as goal

pub returns : goal.returns
returns c = settles
