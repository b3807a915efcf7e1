use Rattle.test_flights.specs.words.Actors.{ActorsFit}
use Rattle.test_flights.proofs.words.rounds.fly_rounds.Given as goal

abbrev pub invariant-loop-round : goal.invariant-loop-round
invariant-loop-round g l = ActorsFit l.words l.mission l.actors
