use Rattle.std.proofs.Common.{rules}
use Rattle.frame_model.proofs.decisions.wanted.Goals as goal

pub returns-in-Retarget : goal.returns-in-Retarget
returns-in-Retarget c = search rules
