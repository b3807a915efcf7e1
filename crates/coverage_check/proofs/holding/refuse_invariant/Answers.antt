use Rattle.std.proofs.Common.{◌≡◌, ◌∙◌, ap, arith, length, sym, List}
use Rattle.scram_types.specs.Specification.{Parts}
use Rattle.scram_types.specs.declared.specification.Invariant.{Invariant}
use Rattle.scram_types.proofs.Searches.{first_is, first_more}
use Rattle.coverage_check.specs.Holding.{invariant_refusal_at}
use Rattle.coverage_check.proofs.holding.refuse_invariant.Goals as goal

pub returns-then-is_some : goal.returns-then-is_some
returns-then-is_some c =
    let same : length c.items.result.now ≡ length c.args.spec.now.invariants = ap (λ (xs : List Invariant). length xs) (c.items.ensures ∙ ap (λ (s : Parts). s.invariants) c.spec.view_is) in
    first_is (invariant_refusal_at c.args.spec.now) (length c.args.spec.now.invariants) c.loop-k.k c.refuse_invariant_at-shown.result c.loop-k.invariant c.refuse_invariant_at-shown.ensures
    (sym c.is_some.ensures ∙ c.if-is_some.true) (omega arith)

pub loop-k-preserved : goal.loop-k-preserved
loop-k-preserved c = first_more (invariant_refusal_at c.args.spec.now) c.loop-k.k c.refuse_invariant_at-shown.result c.loop-k.invariant c.refuse_invariant_at-shown.ensures
    (sym c.is_some.ensures ∙ c.if-is_some.false)
