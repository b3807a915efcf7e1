use Rattle.std.proofs.Common.{arith, length}
use Rattle.form_base.proofs.TextsBelow.{cut_below, printed_next}
use Rattle.trace_forms.specs.columns_form.Table.{app_head_text}
use Rattle.trace_forms.proofs.columns_form.tables.put_app_heads.Goals as goal

pub returns-in-Err : goal.returns-in-Err
returns-in-Err g c =
    cut_below (app_head_text c.args.spec.now) c.loop-a.a (length c.args.spec.now.apps) _ _ _ (omega (arith, c.loop-a-test.true, c.count_apps-a-end.ensures.value)) c.loop-a.invariant c.in-Err.ensures

pub loop-a-preserved : goal.loop-a-preserved
loop-a-preserved g c = printed_next (app_head_text c.args.spec.now) c.loop-a.a _ _ _ c.loop-a.invariant c.in-Ok.ensures
