use Rattle.std.proofs.Common.{◌≡◌, ◌∙◌, ap, arith, sym}
use Rattle.scram_types.specs.Searches.{all_below}
use Rattle.scram_types.proofs.Searches.{all_false}
use Rattle.choice_table.specs.Environments.{factor_in}
use Rattle.cube_cover.specs.Cubes.{is_digit}
use Rattle.cube_cover.specs.Leasts.{belongs}
use Rattle.cube_cover.proofs.leasts.belongs.Goals as goal

pub returns-then-not-is_digit : goal.returns-then-not-is_digit
unfolding belongs
returns-then-not-is_digit c = sym (all_false (λ x. is_digit c.args.spec.now x (factor_in c.args.env.now x)) 6 c.loop-x.x (omega arith)
    (ap (λ k. is_digit c.args.spec.now c.loop-x.x (factor_in c.args.env.now k)) (sym c.from.ensures) ∙ sym c.is_digit.ensures ∙ c.if-not-is_digit.true))

pub returns : goal.returns
unfolding belongs
returns c = let end : c.loop-x.x ≡ 6 = omega arith in sym (ap (all_below (λ x. is_digit c.args.spec.now x (factor_in c.args.env.now x))) (sym end) ∙ c.loop-x.invariant)
