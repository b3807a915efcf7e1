use Rattle.std.proofs.Common.{rules}
use Rattle.frame_model.proofs.decisions.turn_to.Goals as goal

pub returns-then-is_past : goal.returns-then-is_past
returns-then-is_past c = search rules
