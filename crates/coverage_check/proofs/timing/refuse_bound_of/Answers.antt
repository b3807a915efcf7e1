use Rattle.std.proofs.Common.{◌≡◌, ◌∙◌, ap, arith, false, length, refl, sym, true}
use Rattle.scram_types.specs.Lookups.{conf_id}
use Rattle.coverage_check.specs.declared.shown.Other.TheVariants as other
use Rattle.coverage_check.specs.Showing.{shown_at}
use Rattle.coverage_check.specs.Timing.{is_bound_asked, is_bounded, lacks_bound, least}
use Rattle.coverage_check.proofs.Showing.{first_shown}
use Rattle.coverage_check.proofs.timing.refuse_bound_of.Goals as goal

pub returns-then-not-is_bounded : goal.returns-then-not-is_bounded
returns-then-not-is_bounded c =
    let asked : is_bound_asked c.args.spec.now (conf_id c.args.i) c.loop-j.j ≡ true = sym c.is_bound_asked.ensures ∙ c.if-is_bound_asked.true in
    let bounded : is_bounded c.args.spec.now (conf_id c.args.i) (conf_id c.loop-j.j) ≡ false = sym c.is_bounded.ensures ∙ c.if-not-is_bounded.true in
    let lacks : lacks_bound c.args.spec.now (conf_id c.args.i) c.loop-j.j ≡ true = rw (asked, bounded) refl in
    first_shown (λ j. lacks_bound c.args.spec.now (conf_id c.args.i) j) (λ j. shown_at 9 c.args.i (other.Least (conf_id j) (least c.args.spec.now (conf_id c.args.i) (conf_id j))))
    (length c.args.spec.now.confs) c.loop-j.j c.at.result true c.loop-j.invariant (sym lacks) refl
    (c.at.ensures ∙ ap (λ n. shown_at 9 c.args.i (other.Least (conf_id c.loop-j.j) n)) c.least-frames.ensures) (omega arith)
