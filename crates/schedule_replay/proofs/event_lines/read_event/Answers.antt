use Rattle.std.proofs.Common.{rules}
use Rattle.schedule_replay.proofs.event_lines.read_event.Goals as goal

pub returns-then-not-is_legible-clause-event : goal.returns-then-not-is_legible-clause-event
returns-then-not-is_legible-clause-event c = search rules
