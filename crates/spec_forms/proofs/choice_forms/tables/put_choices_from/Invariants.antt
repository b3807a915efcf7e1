use Rattle.form_base.specs.Texts.{texts_below}
use Rattle.scram_io.specs.Outside.{Printed}
use Rattle.spec_forms.specs.choice_forms.Tables.{choice_text}
use Rattle.spec_forms.proofs.choice_forms.tables.put_choices_from.Given as goal

abbrev pub invariant-loop-k : goal.invariant-loop-k
invariant-loop-k g l =
    Printed (g.K.Sink.state l.initial.out) (g.K.Sink.state l.out) (texts_below (choice_text l.spec l.from.0) l.k)
