use Rattle.std.proofs.Common.{◌≡◌, None}
use Rattle.scram_types.specs.Searches.{first_below}
use Rattle.coverage_check.specs.Demands.{demand_refusal_at}
use Rattle.coverage_check.proofs.demands.first_miss.Given as goal

abbrev pub invariant-loop-k : goal.invariant-loop-k
invariant-loop-k l = first_below (demand_refusal_at l.spec l.c) l.k ≡ None
