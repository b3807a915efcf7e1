use Rattle.form_base.specs.Texts.{texts_below}
use Rattle.scram_io.specs.Outside.{Printed}
use Rattle.trace_forms.specs.columns_form.Table.{row_line_text}
use Rattle.trace_forms.proofs.columns_form.tables.put_rows.Given as goal

abbrev pub invariant-loop-k : goal.invariant-loop-k
invariant-loop-k g l = Printed (g.K.Sink.state l.initial.out) (g.K.Sink.state l.out) (texts_below (row_line_text l.spec l.rows) l.k)
