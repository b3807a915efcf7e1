use Rattle.std.proofs.Common.{◌≡◌, ◌≤◌, ◌+◌, [], length}
use Rattle.trace_text.specs.Pieces.{pieces_of}
use Rattle.schedule_replay.specs.Events.{HasEvents}
use Rattle.schedule_replay.specs.Reading.{events_from}
use Rattle.schedule_replay.proofs.schedule_reading.read_schedule.Given as goal

abbrev pub invariant-loop-text : goal.invariant-loop-text
invariant-loop-text l = record {
  rest : events_from l.spec l.line l.list.items (pieces_of 10 l.rest) ≡ events_from l.spec 1 [] (pieces_of 10 l.bytes);
  known : HasEvents l.spec l.list.items;
  place : l.line + length l.rest ≤ 1 + length l.bytes;
}

abbrev pub decreases-loop-text : goal.decreases-loop-text
decreases-loop-text l = length l.rest
