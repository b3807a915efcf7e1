use Rattle.std.proofs.Common.{◌≡◌, None}
use Rattle.scram_types.specs.Searches.{first_below}
use Rattle.coverage_check.specs.Demands.{demand_refusal_in}
use Rattle.coverage_check.proofs.demands.refuse_demand.Given as goal

abbrev pub invariant-loop-c : goal.invariant-loop-c
invariant-loop-c l = first_below (demand_refusal_in l.spec) l.c ≡ None
