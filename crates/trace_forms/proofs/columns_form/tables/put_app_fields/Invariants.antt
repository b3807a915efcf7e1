use Rattle.form_base.specs.Texts.{texts_below}
use Rattle.scram_io.specs.Outside.{Printed}
use Rattle.trace_forms.specs.columns_form.Table.{app_fields_text}
use Rattle.trace_forms.proofs.columns_form.tables.put_app_fields.Given as goal

abbrev pub invariant-loop-a : goal.invariant-loop-a
invariant-loop-a g l = Printed (g.K.Sink.state l.initial.out) (g.K.Sink.state l.out) (texts_below (app_fields_text l.spec l.row) l.a)
