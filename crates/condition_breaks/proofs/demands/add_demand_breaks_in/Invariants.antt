use Rattle.std.proofs.Common.{◌≡◌, ◌++◌}
use Rattle.condition_breaks.specs.Breaks.{demand_break}
use Rattle.condition_breaks.specs.Lists.{gathered_below}
use Rattle.condition_breaks.proofs.demands.add_demand_breaks_in.Given as goal

abbrev pub invariant-loop-k : goal.invariant-loop-k
invariant-loop-k l = l.breaks.items ≡ l.initial.breaks.items ++ gathered_below (demand_break l.spec l.c) l.k
