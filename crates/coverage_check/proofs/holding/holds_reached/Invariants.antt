use Rattle.std.proofs.Common.{◌≡◌, true}
use Rattle.scram_types.specs.Searches.{all_below}
use Rattle.scram_types.specs.Lookups.{conf_id}
use Rattle.coverage_check.specs.Holding.{holds_on_way}
use Rattle.coverage_check.proofs.holding.holds_reached.Given as goal

abbrev pub invariant-loop-j : goal.invariant-loop-j
invariant-loop-j l = all_below (holds_on_way l.spec l.inv (conf_id l.i)) l.j ≡ true
