use Rattle.test_flights.specs.words.Actors.{ActorsFit}
use Rattle.test_flights.proofs.words.rounds.make_round.Given as goal

abbrev pub invariant-loop-name : goal.invariant-loop-name
invariant-loop-name g l = record {
  next : (goal.iterator-loop-name g).can_next l.name-iterator;
  finite : (goal.iterator-loop-name g).is_finite l.name-iterator;
  fit : ActorsFit l.words l.mission l.actors;
}
