use Rattle.std.proofs.Common.{◌≡◌, ◌++◌}
use Rattle.condition_breaks.specs.Breaks.{bound_breaks_from}
use Rattle.condition_breaks.specs.Lists.{gathered_below}
use Rattle.condition_breaks.proofs.timing.add_bound_breaks.Given as goal

abbrev pub invariant-loop-i : goal.invariant-loop-i
invariant-loop-i l = l.breaks.items ≡ l.initial.breaks.items ++ gathered_below (bound_breaks_from l.spec) l.i
