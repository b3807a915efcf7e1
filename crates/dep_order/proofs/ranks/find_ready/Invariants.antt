use Rattle.std.proofs.Common.{◌≡◌, ◌<◌, ℕ}
use Rattle.std.specs.Prelude.{None, Some, slice_get}
use Rattle.scram_types.specs.declared.specification.AppSpec.{AppSpec}
use Rattle.dep_order.specs.Ranking.{rank_in, ready}
use Rattle.dep_order.proofs.ranks.find_ready.Given as goal

abbrev pub invariant-loop-a : goal.invariant-loop-a
invariant-loop-a l =
    (a : ℕ) (app : AppSpec) → a < l.a → slice_get l.apps a ≡ Some app → rank_in l.ranks a ≡ None → ready 0 l.ranks app.needs ≡ None
