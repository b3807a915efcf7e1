use Rattle.std.proofs.Common.{◌≡◌, ◌∙◌, ap, arith, length, refl, sym, true}
use Rattle.std.specs.Prelude.{nat_lt}
use Rattle.scram_types.specs.declared.limits.TheConstants.{MAX_BOUND}
use Rattle.scram_types.specs.Lookups.{conf_id}
use Rattle.scram_types.proofs.Booleans.{and_true}
use Rattle.scram_types.proofs.Naturals.{below_test}
use Rattle.coverage_check.specs.declared.shown.Other.TheVariants as other
use Rattle.coverage_check.specs.Showing.{shown_at}
use Rattle.coverage_check.specs.Timing.{is_bound_asked, least}
use Rattle.coverage_check.proofs.Showing.{first_shown}
use Rattle.fill_form.specs.Refusing.{asks_too_long}
use Rattle.fill_form.proofs.refusing.refuse_long_of.Goals as goal

pub returns-then-frames-gt-MAX_BOUND : goal.returns-then-frames-gt-MAX_BOUND
returns-then-frames-gt-MAX_BOUND c =
    let asked : is_bound_asked c.args.spec.now (conf_id c.args.i) c.loop-j.j ≡ true = sym c.is_asked.ensures ∙ c.if-is_asked.true in
    let long : nat_lt MAX_BOUND (least c.args.spec.now (conf_id c.args.i) (conf_id c.loop-j.j)) ≡ true =
    ap (nat_lt MAX_BOUND) (sym c.least-frames.ensures) ∙ below_test MAX_BOUND c.least-frames.result (omega (arith, c.if-frames-gt-MAX_BOUND.true)) in
    first_shown (asks_too_long c.args.spec.now c.args.i) (λ j. shown_at 9 c.args.i (other.Least (conf_id j) (least c.args.spec.now (conf_id c.args.i) (conf_id j))))
    (length c.args.spec.now.confs) c.loop-j.j (shown_at 9 c.args.i (other.Least (conf_id c.loop-j.j) c.least-frames.result)) true c.loop-j.invariant
    (sym (and_true (is_bound_asked c.args.spec.now (conf_id c.args.i) c.loop-j.j) _ asked long)) refl
    (ap (λ n. shown_at 9 c.args.i (other.Least (conf_id c.loop-j.j) n)) c.least-frames.ensures) (omega arith)
