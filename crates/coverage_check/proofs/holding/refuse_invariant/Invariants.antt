use Rattle.std.proofs.Common.{◌≡◌, None}
use Rattle.scram_types.specs.Searches.{first_below}
use Rattle.coverage_check.specs.Holding.{invariant_refusal_at}
use Rattle.coverage_check.proofs.holding.refuse_invariant.Given as goal

abbrev pub invariant-loop-k : goal.invariant-loop-k
invariant-loop-k l = first_below (invariant_refusal_at l.spec) l.k ≡ None
