use Rattle.std.proofs.Common.{◌≡◌, ◌∙◌, ap, arith, length, sym, List}
use Rattle.scram_types.specs.Specification.{Parts}
use Rattle.scram_types.specs.declared.demands.Demand.{Demand}
use Rattle.scram_types.proofs.Searches.{first_is, first_more}
use Rattle.coverage_check.specs.Demands.{demand_refusal_at}
use Rattle.coverage_check.proofs.Reaching.{miss_is}
use Rattle.coverage_check.proofs.demands.first_miss.Goals as goal

pub returns-then-is_some : goal.returns-then-is_some
returns-then-is_some c =
    let same : length c.items.result.now ≡ length c.args.spec.now.demands = ap (λ (xs : List Demand). length xs) (c.items.ensures ∙ ap (λ (s : Parts). s.demands) c.spec.view_is) in
    first_is (demand_refusal_at c.args.spec.now c.args.c) (length c.args.spec.now.demands) c.loop-k.k c.show_miss-shown.result c.loop-k.invariant
    (c.show_miss-shown.ensures ∙ miss_is c.args.spec.now c.requires.known c.args.c c.args.found.now c.requires.found c.loop-k.k (omega arith))
    (sym c.is_some.ensures ∙ c.if-is_some.true) (omega arith)

pub loop-k-preserved : goal.loop-k-preserved
loop-k-preserved c =
    let same : length c.items.result.now ≡ length c.args.spec.now.demands = ap (λ (xs : List Demand). length xs) (c.items.ensures ∙ ap (λ (s : Parts). s.demands) c.spec.view_is) in
    first_more (demand_refusal_at c.args.spec.now c.args.c) c.loop-k.k c.show_miss-shown.result c.loop-k.invariant
    (c.show_miss-shown.ensures ∙ miss_is c.args.spec.now c.requires.known c.args.c c.args.found.now c.requires.found c.loop-k.k (omega arith))
    (sym c.is_some.ensures ∙ c.if-is_some.false)
