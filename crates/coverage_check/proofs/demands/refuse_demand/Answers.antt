use Rattle.std.proofs.Common.{◌∙◌, arith, length, sym}
use Rattle.scram_types.proofs.Searches.{first_is}
use Rattle.coverage_check.specs.Demands.{demand_refusal_in}
use Rattle.coverage_check.proofs.demands.refuse_demand.Goals as goal

pub returns-then-is_some : goal.returns-then-is_some
returns-then-is_some c = first_is (demand_refusal_in c.args.spec.now) (length c.args.spec.now.confs) c.loop-c.c c.in_ok-shown.shown c.loop-c.invariant c.in_ok-shown.ensures
    (sym c.is_some.ensures ∙ c.if-is_some.true) (omega arith)
