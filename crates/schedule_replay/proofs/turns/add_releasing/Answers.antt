use Rattle.std.proofs.Common.{rules}
use Rattle.schedule_replay.proofs.turns.add_releasing.Goals as goal

pub returns-then-frame-frames : goal.returns-then-frame-frames
returns-then-frame-frames c = search rules
