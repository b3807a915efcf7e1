use Rattle.std.proofs.Common.{◌≡◌}
use Rattle.lock_deck.proofs.lock_flights.finish.Given as goal

abbrev pub invariant-loop : goal.invariant-loop
invariant-loop g l = (goal.iterator-loop g).can_next l.iterator' × (goal.iterator-loop g).is_finite l.iterator' × (l.core.spec ≡ l.initial.core.spec) × (l.core.script ≡ l.initial.core.script)
