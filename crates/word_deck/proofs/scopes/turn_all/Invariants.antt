use Rattle.std.proofs.Common.{◌≡◌}
use Rattle.word_deck.specs.Flights.{AreCrewsOf, numbers_in}
use Rattle.word_deck.proofs.scopes.turn_all.Given as goal

abbrev pub invariant-loop-i : goal.invariant-loop-i
invariant-loop-i g l = AreCrewsOf l.words l.own.items × (numbers_in l.own.items ≡ numbers_in l.fn.own.items)
