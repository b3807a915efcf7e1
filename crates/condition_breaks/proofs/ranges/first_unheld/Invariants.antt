use Rattle.std.proofs.Common.{◌≡◌, drop}
use Rattle.condition_breaks.specs.Ranges.{first_unheld}
use Rattle.condition_breaks.proofs.ranges.first_unheld.Given as goal

abbrev pub invariant-loop-way : goal.invariant-loop-way
invariant-loop-way l = first_unheld l.spec l.inv (drop l.way-index l.ways) ≡ first_unheld l.spec l.inv l.ways
