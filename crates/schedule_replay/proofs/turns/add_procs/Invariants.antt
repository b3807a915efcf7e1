use Rattle.fail_stop.specs.ScriptFlights.{flight_of}
use Rattle.schedule_replay.specs.Turns.{Adds, turns_of_procs}
use Rattle.schedule_replay.proofs.turns.add_procs.Given as goal

abbrev pub invariant-loop-p : goal.invariant-loop-p
invariant-loop-p l = Adds l.initial.list.items l.list.items (turns_of_procs (flight_of l.spec l.script) l.frame l.p)
