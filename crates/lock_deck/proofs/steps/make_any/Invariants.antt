use Rattle.std.proofs.Common.{◌≡◌}
use Rattle.lock_deck.proofs.steps.make_any.Given as goal

abbrev pub invariant-loop-p : goal.invariant-loop-p
invariant-loop-p l = (l.core.spec ≡ l.fn.core.spec) × (l.core.script ≡ l.fn.core.script)
