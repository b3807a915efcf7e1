use Rattle.std.proofs.Common.{◌≡◌, ◌∙◌, ◌+◌, ap, arith, sym}
use Rattle.scram_types.specs.Searches.{all_below}
use Rattle.scram_types.proofs.Searches.{all_false}
use Rattle.cube_cover.specs.Sizes.{digit_of_processor, is_open_digit}
use Rattle.cube_cover.proofs.sizes.allows_up.Goals as goal

pub returns-then-not-is_open : goal.returns-then-not-is_open
returns-then-not-is_open c = sym (all_false (λ p. is_open_digit c.args.cube (6 + p) (digit_of_processor c.args.up p)) 8 c.loop-p.p (omega arith)
    (ap (is_open_digit c.args.cube (6 + c.loop-p.p)) (sym c.digit_of_processor.ensures.value) ∙ sym c.is_open.ensures ∙ c.if-not-is_open.true))

pub returns : goal.returns
returns c =
    let end : c.loop-p.p ≡ 8 = omega arith in
    sym (ap (all_below (λ p. is_open_digit c.args.cube (6 + p) (digit_of_processor c.args.up p))) (sym end) ∙ c.loop-p.invariant)
