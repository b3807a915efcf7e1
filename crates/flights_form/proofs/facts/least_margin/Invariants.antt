use Rattle.std.proofs.Common.{◌≡◌, ◌≤◌, length, drop}
use Rattle.flights_form.specs.Facts.{least_margin}
use Rattle.flights_form.proofs.facts.least_margin.Given as goal

abbrev pub invariant-loop-k : goal.invariant-loop-k
invariant-loop-k l = record {
  least : l.least ≡ least_margin l.spec (drop l.k l.reports);
  most : l.k ≤ length l.reports;
}

abbrev pub decreases-loop-k : goal.decreases-loop-k
decreases-loop-k l = l.k
