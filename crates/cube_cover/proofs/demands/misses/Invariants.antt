use Rattle.std.proofs.Common.{◌≡◌, length}
use Rattle.cube_cover.proofs.Missing.{AreFound}
use Rattle.cube_cover.proofs.demands.misses.Given as goal

abbrev pub invariant-loop-demand : goal.invariant-loop-demand
invariant-loop-demand l = record {
  counted : length l.found.items ≡ l.demand-index;
  found : AreFound l.spec l.i l.found.items;
}
