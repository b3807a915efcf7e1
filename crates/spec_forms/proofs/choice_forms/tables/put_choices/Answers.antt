use Rattle.std.proofs.Common.{suc, length, arith}
use Rattle.form_base.specs.Texts.{texts_below}
use Rattle.form_base.proofs.TextsBelow.{texts_more, texts_rest}
use Rattle.scram_io.proofs.Puts.{printed_more, cut_in}
use Rattle.spec_forms.specs.choice_forms.Tables.{choices_text, choices_text_from}
use Rattle.spec_forms.proofs.choice_forms.tables.put_choices.Goals as goal

pub returns-in-Err : goal.returns-in-Err
returns-in-Err g c =
    let text = choices_text_from c.args.spec.now in
    let rest = texts_rest text (suc c.loop-i.i) (length c.args.spec.now.confs) (omega (arith, c.loop-i-test.true, c.count_confs-i-end.ensures.value)) in
    cut_in _ _ _ (choices_text c.args.spec.now) (texts_below text c.loop-i.i) (text c.loop-i.i) rest.0 rest.1
    c.loop-i.invariant c.in-Err.ensures

pub loop-i-preserved : goal.loop-i-preserved
loop-i-preserved g c =
    let text = choices_text_from c.args.spec.now in
    rw (texts_more text c.loop-i.i)
    (printed_more _ _ _ (texts_below text c.loop-i.i) (text c.loop-i.i) c.loop-i.invariant c.in-Ok.ensures)
