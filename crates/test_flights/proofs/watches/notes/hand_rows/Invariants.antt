use Rattle.std.specs.Prelude.{◌≡◌}
use Rattle.test_flights.proofs.watches.notes.hand_rows.Given as goal

abbrev pub invariant-loop-i : goal.invariant-loop-i
invariant-loop-i g l = (g.W.Watch.watched l.watch ≡ g.W.Watch.watched l.fn.watch) × (g.W.Watch.taken l.watch ≡ l.i)
