use Rattle.std.proofs.Common.{◌≡◌, ◌++◌, drop}
use Rattle.schedule_replay.specs.Events.{schedule_text}
use Rattle.schedule_replay.proofs.schedule_writing.write_lines.Given as goal

abbrev pub invariant-loop-event : goal.invariant-loop-event
invariant-loop-event l = schedule_text l.spec l.events ≡ l.text.items ++ schedule_text l.spec (drop l.event-index l.events)
