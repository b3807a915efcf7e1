use Rattle.std.proofs.Common.{◌≡◌, ◌+◌, ◌<◌, ℕ, length}
use Rattle.std.specs.Prelude.{Some}
use Rattle.dep_order.specs.Ranking.{IsSound, rank_in}
use Rattle.dep_order.proofs.Assigned.{count_none}
use Rattle.dep_order.proofs.ranks.ranks_of_unbound.Given as goal

abbrev pub invariant-loop-a : goal.invariant-loop-a
invariant-loop-a l = record {
  width : length l.ranks ≡ 8;
  sound : IsSound l.apps l.ranks;
  small : (a r : ℕ) → rank_in l.ranks a ≡ Some r → r + count_none l.ranks < 8;
}

abbrev pub decreases-loop-a : goal.decreases-loop-a
decreases-loop-a l = count_none l.ranks
