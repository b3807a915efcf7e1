use Rattle.std.proofs.Common.{◌∙◌, arith, length, sym}
use Rattle.scram_types.proofs.Searches.{first_is, first_more}
use Rattle.coverage_check.specs.Form.{shape_refusal_of}
use Rattle.coverage_check.proofs.form.refuse_shape.Goals as goal

pub returns-then-is_some : goal.returns-then-is_some
returns-then-is_some c = first_is (shape_refusal_of c.args.spec.now) (length c.args.spec.now.confs) c.loop-c.c c.refuse_shape_of-shown.result c.loop-c.invariant c.refuse_shape_of-shown.ensures
    (sym c.is_some.ensures ∙ c.if-is_some.true) (omega arith)

pub loop-c-preserved : goal.loop-c-preserved
loop-c-preserved c = first_more (shape_refusal_of c.args.spec.now) c.loop-c.c c.refuse_shape_of-shown.result c.loop-c.invariant c.refuse_shape_of-shown.ensures
    (sym c.is_some.ensures ∙ c.if-is_some.false)
