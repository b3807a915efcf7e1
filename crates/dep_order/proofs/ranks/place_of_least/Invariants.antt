use Rattle.std.proofs.Common.{◌<◌, ◌≤◌, ℕ, get_or}
use Rattle.scram_types.specs.declared.ids.AppId.{AppId}
use Rattle.dep_order.proofs.ranks.place_of_least.Given as goal

abbrev pub invariant-loop-k : goal.invariant-loop-k
invariant-loop-k l = record {
  inside : l.least < l.k;
  least : (k : ℕ) (d : AppId) → k < l.k → (get_or l.cycle l.least d).0 ≤ (get_or l.cycle k d).0;
}
