use Rattle.std.proofs.Common.{◌≡◌, ◌+◌, ◌≤◌, length, drop}
use Rattle.flight_facts.specs.Gaps.{longest_gap, missing_rows}
use Rattle.flight_facts.proofs.gaps.longest_gap.Given as goal

abbrev pub invariant-loop-k : goal.invariant-loop-k
invariant-loop-k l = record {
  frames : l.frames ≡ missing_rows l.app (drop l.k l.rows);
  longest : l.longest ≡ longest_gap l.app l.k (drop l.k l.rows);
  most : l.frames + l.k ≤ length l.rows;
}

abbrev pub decreases-loop-k : goal.decreases-loop-k
decreases-loop-k l = l.k
