use Rattle.frame_model.proofs.Older.{halts_last}
use Rattle.frame_model.proofs.laws.halts_last_without_restarts.Goals as goal

pub returns : goal.returns
returns c = halts_last
