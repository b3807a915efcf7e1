use Rattle.std.proofs.Common.{◌≡◌}
use Rattle.fail_stop.specs.ScriptFlights.{flight_of}
use Rattle.schedule_replay.specs.Turns.{frames_in_turns}
use Rattle.schedule_replay.proofs.turns.add_frames.Given as goal

abbrev pub invariant-loop-frame : goal.invariant-loop-frame
invariant-loop-frame l = l.list.items ≡ frames_in_turns (flight_of l.spec l.script) l.frame
