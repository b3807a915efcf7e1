use Rattle.std.proofs.Common.{arith}
use Rattle.form_base.proofs.TextsBelow.{added_next}
use Rattle.trace_forms.specs.columns_form.Heads.{word_head}
use Rattle.trace_forms.proofs.columns_form.heads.add_word_heads.Goals as goal

pub loop-i-preserved : goal.loop-i-preserved
loop-i-preserved c =
    (added_next (word_head c.args.app.now) c.loop-i.i c.args.line.now c.loop-i.line _ c.loop-i.invariant.0 c.add_word_head.ensures.text, omega (arith, c.loop-i.invariant.1, c.add_word_head.ensures.short))
