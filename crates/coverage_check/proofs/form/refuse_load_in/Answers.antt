use Rattle.std.proofs.Common.{arith, length}
use Rattle.scram_types.specs.Lookups.{proc_id, conf_id}
use Rattle.coverage_check.specs.declared.shown.Other.TheVariants as other
use Rattle.coverage_check.specs.Form.{is_overloaded}
use Rattle.coverage_check.specs.Showing.{shown_at}
use Rattle.coverage_check.proofs.Showing.{first_shown}
use Rattle.coverage_check.proofs.form.refuse_load_in.Goals as goal

pub returns-then-is_overloaded : goal.returns-then-is_overloaded
returns-then-is_overloaded c = first_shown (λ p. is_overloaded c.args.spec.now (conf_id c.args.c) p) (λ p. shown_at 4 c.args.c (other.Proc (proc_id p))) (length c.args.spec.now.procs) c.loop-p.p c.at.result c.is_overloaded.result
    c.loop-p.invariant c.is_overloaded.ensures c.if-is_overloaded.true c.at.ensures (omega arith)
