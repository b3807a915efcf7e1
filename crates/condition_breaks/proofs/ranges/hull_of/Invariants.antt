use Rattle.std.proofs.Common.{◌≡◌, drop}
use Rattle.condition_breaks.specs.Ranges.{hull_of, interval, range_on}
use Rattle.condition_breaks.proofs.ranges.hull_of.Given as goal

abbrev pub invariant-loop-way : goal.invariant-loop-way
invariant-loop-way l = hull_of l.spec l.inv l.held (drop l.way-index l.ways) ≡ hull_of l.spec l.inv (interval (range_on l.spec l.inv l.first)) l.ways
