use Rattle.std.proofs.Common.{rules}
use Rattle.lock_deck.proofs.lock_flights.LockFlight.open.Goals as goal

pub invariant_of-result : goal.invariant_of-result
invariant_of-result c = search rules
