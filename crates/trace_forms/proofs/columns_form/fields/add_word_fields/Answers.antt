use Rattle.std.proofs.Common.{arith}
use Rattle.form_base.proofs.TextsBelow.{added_next}
use Rattle.trace_forms.specs.columns_form.Fields.{word_field}
use Rattle.trace_forms.proofs.columns_form.fields.add_word_fields.Goals as goal

pub loop-i-preserved : goal.loop-i-preserved
loop-i-preserved c =
    (added_next (word_field c.args.kind.0 c.args.area.now) c.loop-i.i c.args.line.now c.loop-i.line _ c.loop-i.invariant.0 c.add_word_field.ensures.text, omega (arith, c.loop-i.invariant.1, c.add_word_field.ensures.short))
