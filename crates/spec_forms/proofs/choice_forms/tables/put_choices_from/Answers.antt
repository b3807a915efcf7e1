use Rattle.std.proofs.Common.{rules, ◌≡◌, suc, length, arith, subst}
use Rattle.form_base.specs.Texts.{texts_below}
use Rattle.form_base.proofs.TextsBelow.{texts_more, texts_rest}
use Rattle.scram_io.specs.Outside.{Printed}
use Rattle.scram_io.proofs.Puts.{printed_more, cut_in}
use Rattle.spec_forms.specs.choice_forms.Tables.{choice_text, choices_text_from}
use Rattle.spec_forms.proofs.choice_forms.tables.put_choices_from.Goals as goal

pub returns-in-Err : goal.returns-in-Err
returns-in-Err g c =
    let text = choice_text c.args.spec.now c.args.from.0 in
    let rest = texts_rest text (suc c.loop-k.k) (suc (length c.args.spec.now.rules)) (omega (arith, c.loop-k-test.true, c.requires.width)) in
    cut_in _ _ _ (choices_text_from c.args.spec.now c.args.from.0) (texts_below text c.loop-k.k) (text c.loop-k.k) rest.0 rest.1
    c.loop-k.invariant c.in-Err.ensures

pub loop-k-preserved : goal.loop-k-preserved
loop-k-preserved g c =
    let text = choice_text c.args.spec.now c.args.from.0 in
    rw (texts_more text c.loop-k.k)
    (printed_more _ _ _ (texts_below text c.loop-k.k) (text c.loop-k.k) c.loop-k.invariant c.in-Ok.ensures)

pub returns : goal.returns
returns g c =
    let end : c.loop-k.k ≡ suc (length c.args.spec.now.rules) = omega (arith, c.loop-k-test.false, c.requires.width, c.loop-k.auto.k-end) in
    subst (λ n. Printed (g.K.Sink.state c.args.out.now) (g.K.Sink.state c.loop-k.out) (texts_below (choice_text c.args.spec.now c.args.from.0) n)) end c.loop-k.invariant

pub loop-k-init : goal.loop-k-init
loop-k-init c = search rules
