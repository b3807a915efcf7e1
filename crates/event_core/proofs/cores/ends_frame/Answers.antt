use Rattle.std.proofs.Common.{rules}
use Rattle.event_core.proofs.cores.ends_frame.Goals as goal

pub returns-in-KNote : goal.returns-in-KNote
returns-in-KNote c = search rules
