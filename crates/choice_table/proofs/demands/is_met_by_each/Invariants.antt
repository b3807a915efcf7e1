use Rattle.std.proofs.Common.{◌≡◌, true}
use Rattle.scram_types.specs.Searches.{all_below}
use Rattle.choice_table.specs.Demands.{is_met_by}
use Rattle.choice_table.proofs.demands.is_met_by_each.Given as goal

abbrev pub invariant-loop-a : goal.invariant-loop-a
invariant-loop-a l = all_below (is_met_by l.spec l.demand l.c) l.a ≡ true
