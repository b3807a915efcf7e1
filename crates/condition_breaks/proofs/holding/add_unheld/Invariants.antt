use Rattle.std.proofs.Common.{◌≡◌, ◌++◌}
use Rattle.condition_breaks.specs.Breaks.{invariant_break}
use Rattle.condition_breaks.specs.Lists.{gathered_below}
use Rattle.condition_breaks.proofs.holding.add_unheld.Given as goal

abbrev pub invariant-loop-k : goal.invariant-loop-k
invariant-loop-k l = l.breaks.items ≡ l.initial.breaks.items ++ gathered_below (invariant_break l.spec) l.k
