use Rattle.std.proofs.Common.{◌≡◌, ◌≤◌, drop}
use Rattle.dep_order.specs.Ranking.{ready}
use Rattle.dep_order.proofs.ranks.rank_after.Given as goal

abbrev pub invariant-loop-needed : goal.invariant-loop-needed
invariant-loop-needed l = record {
  small : l.rank ≤ 8;
  rest : ready l.rank l.ranks (drop l.needed-index l.needs) ≡ ready 0 l.ranks l.needs;
}
