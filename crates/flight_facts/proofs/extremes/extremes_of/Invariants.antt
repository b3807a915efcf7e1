use Rattle.std.proofs.Common.{◌≡◌, ◌≤◌, length, drop}
use Rattle.flight_facts.specs.Extremes.{extremes_of}
use Rattle.flight_facts.proofs.extremes.extremes_of.Given as goal

abbrev pub invariant-loop-k : goal.invariant-loop-k
invariant-loop-k l = record {
  so_far : l.so_far ≡ extremes_of l.quantity (drop l.k l.rows);
  most : l.k ≤ length l.rows;
}

abbrev pub decreases-loop-k : goal.decreases-loop-k
decreases-loop-k l = l.k
