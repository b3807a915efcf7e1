use Rattle.std.proofs.Common.{rules}
use Rattle.frame_model.proofs.frames.committing.Goals as goal

pub returns : goal.returns
returns c = search rules
