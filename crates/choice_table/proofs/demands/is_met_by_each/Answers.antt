use Rattle.std.proofs.Common.{◌≡◌, ◌∙◌, arith, sym, true, subst}
use Rattle.scram_types.specs.Searches.{all_below}
use Rattle.scram_types.proofs.Searches.{all_false}
use Rattle.choice_table.specs.Demands.{is_met_by}
use Rattle.choice_table.proofs.demands.is_met_by_each.Goals as goal

pub returns-then-not-is_met_by : goal.returns-then-not-is_met_by
returns-then-not-is_met_by c = sym (all_false (is_met_by c.args.spec.now c.args.demand.now c.args.c) 8 c.loop-a.a (omega arith)
    (sym c.is_met_by.ensures ∙ c.if-not-is_met_by.true))

pub returns : goal.returns
returns c =
    let all : c.loop-a.a ≡ 8 = omega arith in
    sym (subst (λ n. all_below (is_met_by c.args.spec.now c.args.demand.now c.args.c) n ≡ true) all c.loop-a.invariant)
