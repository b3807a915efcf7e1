use Rattle.std.proofs.Common.{rules}
use Rattle.schedule_replay.proofs.replays.land.Goals as goal

pub finish-requires : goal.finish-requires
finish-requires c = search rules

pub returns-in-None : goal.returns-in-None
returns-in-None c = search rules
