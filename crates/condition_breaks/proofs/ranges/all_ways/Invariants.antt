use Rattle.std.proofs.Common.{◌≡◌}
use Rattle.condition_breaks.specs.Lists.{gathered_below}
use Rattle.condition_breaks.specs.Ranges.{ways_from}
use Rattle.condition_breaks.proofs.ranges.all_ways.Given as goal

abbrev pub invariant-loop-i : goal.invariant-loop-i
invariant-loop-i l = l.ways.items ≡ gathered_below (ways_from l.spec) l.i
