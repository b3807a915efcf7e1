use Rattle.std.proofs.Common.{rules}
use Rattle.frame_model.proofs.sights.show_in.Goals as goal

pub returns : goal.returns
returns c = search rules
