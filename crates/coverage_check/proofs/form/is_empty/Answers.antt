use Rattle.std.proofs.Common.{◌≡◌, ap, arith, not, subst, sym, true, ◌∙◌}
use Rattle.scram_types.specs.Lookups.{is_on}
use Rattle.scram_types.specs.Searches.{all_below}
use Rattle.scram_types.proofs.Searches.{all_false, all_more}
use Rattle.coverage_check.proofs.form.is_empty.Goals as goal

pub returns : goal.returns
returns c =
    let last : c.loop-a.a ≡ 8 = omega arith in
    sym (subst (λ n. all_below (λ a. not (is_on c.args.spec.now c.args.c a)) n ≡ true) last c.loop-a.invariant)

pub returns-then-is_on : goal.returns-then-is_on
returns-then-is_on c =
    sym (all_false (λ a. not (is_on c.args.spec.now c.args.c a)) 8 c.loop-a.a c.loop-a-test.true (ap not (sym c.is_on.ensures ∙ c.if-is_on.true)))

pub loop-a-preserved : goal.loop-a-preserved
loop-a-preserved c = all_more (λ a. not (is_on c.args.spec.now c.args.c a)) c.loop-a.a c.loop-a.invariant (ap not (sym c.is_on.ensures ∙ c.if-is_on.false))
