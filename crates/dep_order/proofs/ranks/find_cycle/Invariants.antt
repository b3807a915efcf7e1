use Rattle.std.proofs.Common.{◌≡◌, ◌+◌, ◌≢◌, length}
use Rattle.std.specs.Prelude.{AllPairs}
use Rattle.scram_types.specs.declared.ids.AppId.{AppId}
use Rattle.dep_order.specs.Ranking.{IsWaiting}
use Rattle.dep_order.specs.Ranks.{NeedsInTurn}
use Rattle.dep_order.proofs.Walks.{count_free}
use Rattle.dep_order.proofs.ranks.find_cycle.Given as goal

abbrev pub invariant-loop-path : goal.invariant-loop-path
invariant-loop-path l = record {
  turn : NeedsInTurn l.apps l.path.items l.at;
  waiting : IsWaiting l.apps l.ranks l.at.0;
  differ : AllPairs (λ (a b : AppId). a.0 ≢ b.0) l.path.items;
  free : length l.path.items + count_free l.path.items 8 ≡ 8;
}

abbrev pub decreases-loop-path : goal.decreases-loop-path
decreases-loop-path l = count_free l.path.items 8
