use Rattle.form_base.specs.Texts.{texts_below}
use Rattle.scram_io.specs.Outside.{Printed}
use Rattle.spec_forms.specs.choice_forms.Tables.{choices_text_from}
use Rattle.spec_forms.proofs.choice_forms.tables.put_choices.Given as goal

abbrev pub invariant-loop-i : goal.invariant-loop-i
invariant-loop-i g l =
    Printed (g.K.Sink.state l.initial.out) (g.K.Sink.state l.out) (texts_below (choices_text_from l.spec) l.i)
