use Rattle.std.proofs.Common.{◌∙◌, arith, length, sym}
use Rattle.scram_types.proofs.Searches.{first_is}
use Rattle.coverage_check.specs.Form.{load_refusal_in}
use Rattle.coverage_check.proofs.form.refuse_load.Goals as goal

pub returns-then-is_some : goal.returns-then-is_some
returns-then-is_some c = first_is (load_refusal_in c.args.spec.now) (length c.args.spec.now.confs) c.loop-c.c c.refuse_load_in-shown.result c.loop-c.invariant c.refuse_load_in-shown.ensures
    (sym c.is_some.ensures ∙ c.if-is_some.true) (omega arith)
