use Rattle.std.proofs.Common.{◌≡◌, ◌≤◌, length, drop}
use Rattle.flights_form.specs.Facts.{greatest_gap}
use Rattle.flights_form.proofs.facts.greatest_gap.Given as goal

abbrev pub invariant-loop-a : goal.invariant-loop-a
invariant-loop-a l = record {
  greatest : l.greatest ≡ greatest_gap l.rows l.a (drop l.a l.spec.apps);
  most : l.a ≤ length l.spec.apps;
}

abbrev pub decreases-loop-a : goal.decreases-loop-a
decreases-loop-a l = l.a
