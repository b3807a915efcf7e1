use Rattle.form_base.specs.Texts.{texts_below}
use Rattle.scram_io.specs.Outside.{Printed}
use Rattle.picture_form.specs.Spans.{span_text}
use Rattle.picture_form.proofs.lanes.put_spans.Given as goal

abbrev pub invariant-loop-k : goal.invariant-loop-k
invariant-loop-k g l = Printed (g.K.Sink.state l.initial.out) (g.K.Sink.state l.out) (texts_below (span_text l.spec l.sheet l.rows l.strip) l.k)
