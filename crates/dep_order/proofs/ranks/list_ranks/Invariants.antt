use Rattle.std.proofs.Common.{◌≡◌, ◌<◌, ℕ, length}
use Rattle.std.specs.Prelude.{slice_get}
use Rattle.dep_order.specs.Ranking.{rank_in}
use Rattle.dep_order.proofs.ranks.list_ranks.Given as goal

abbrev pub invariant-loop-a : goal.invariant-loop-a
invariant-loop-a l = record {
  count : length l.listed.items ≡ l.a;
  ranks : (b : ℕ) → b < l.a → rank_in l.ranks b ≡ slice_get l.listed.items b;
}
