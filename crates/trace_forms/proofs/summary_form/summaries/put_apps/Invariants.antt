use Rattle.form_base.specs.Texts.{texts_below}
use Rattle.scram_io.specs.Outside.{Printed}
use Rattle.trace_forms.specs.summary_form.Summary.{app_text}
use Rattle.trace_forms.proofs.summary_form.summaries.put_apps.Given as goal

abbrev pub invariant-loop-a : goal.invariant-loop-a
invariant-loop-a g l = Printed (g.K.Sink.state l.initial.out) (g.K.Sink.state l.out) (texts_below (app_text l.spec l.rows) l.a)
