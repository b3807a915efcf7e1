use Rattle.std.proofs.Common.{◌≡◌, ◌++◌}
use Rattle.condition_breaks.specs.Lists.{gathered_below}
use Rattle.condition_breaks.specs.Ranges.{way_to}
use Rattle.condition_breaks.proofs.ranges.add_other_ways.Given as goal

abbrev pub invariant-loop-j : goal.invariant-loop-j
invariant-loop-j l = l.ways.items ≡ l.initial.ways.items ++ gathered_below (way_to l.spec l.i) l.j
