use Rattle.std.proofs.Common.{arith}
use Rattle.std.proofs.lemmas.Grind.{common_steps}
use Rattle.trace_forms.proofs.columns_form.fields.add_up_fields.Goals as goal

pub loop-proc-preserved : goal.loop-proc-preserved
loop-proc-preserved c = grind (arith, common_steps)
