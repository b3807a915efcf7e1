use Rattle.test_flights.specs.words.Actors.{ActorsFit}
use Rattle.test_flights.proofs.words.rounds.repeat_turns.Given as goal

abbrev pub invariant-loop-time : goal.invariant-loop-time
invariant-loop-time g l = ActorsFit l.words l.mission l.actors
