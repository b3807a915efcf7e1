use Rattle.form_base.specs.Texts.{texts_below}
use Rattle.scram_io.specs.Outside.{Printed}
use Rattle.trace_forms.specs.summary_form.Summary.{reconfiguration_text}
use Rattle.trace_forms.proofs.summary_form.summaries.put_reconfigurations.Given as goal

abbrev pub invariant-loop-n : goal.invariant-loop-n
invariant-loop-n g l = Printed (g.K.Sink.state l.initial.out) (g.K.Sink.state l.out) (texts_below (reconfiguration_text l.spec l.rows l.reports) l.n)
