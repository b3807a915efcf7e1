use Rattle.std.proofs.Common.{arith}
use Rattle.scram_types.specs.Lookups.{conf_id}
use Rattle.coverage_check.specs.declared.shown.Other.TheVariants as other
use Rattle.coverage_check.specs.Form.{is_same}
use Rattle.coverage_check.specs.Showing.{shown_at}
use Rattle.coverage_check.proofs.Showing.{first_shown}
use Rattle.coverage_check.proofs.form.refuse_twin_of.Goals as goal

pub returns-then-is_same : goal.returns-then-is_same
returns-then-is_same c = first_shown (λ d. is_same c.args.spec.now (conf_id c.args.c) (conf_id d)) (λ d. shown_at 3 c.args.c (other.Conf (conf_id d))) (c.args.c) c.loop-d.d c.at.result c.is_same.result
    c.loop-d.invariant c.is_same.ensures c.if-is_same.true c.at.ensures (omega arith)
