use Rattle.std.proofs.Common.{arith, length}
use Rattle.scram_types.specs.Lookups.{app_id, conf_id}
use Rattle.coverage_check.specs.declared.shown.Other.TheVariants as other
use Rattle.coverage_check.specs.Form.{lacks_need}
use Rattle.coverage_check.specs.Showing.{shown_at}
use Rattle.coverage_check.proofs.Showing.{first_shown}
use Rattle.coverage_check.proofs.form.refuse_need_in.Goals as goal

pub returns-then-lacks_need : goal.returns-then-lacks_need
returns-then-lacks_need c = first_shown (λ a. lacks_need c.args.spec.now (conf_id c.args.c) a) (λ a. shown_at 1 c.args.c (other.App (app_id a))) (length c.args.spec.now.apps) c.loop-a.a c.at.result c.lacks_need.result
    c.loop-a.invariant c.lacks_need.ensures c.if-lacks_need.true c.at.ensures (omega arith)
