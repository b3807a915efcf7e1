use Rattle.form_base.specs.Texts.{texts_below}
use Rattle.scram_io.specs.Outside.{Printed}
use Rattle.picture_form.specs.Reconfigurations.{reconfiguration_boxes}
use Rattle.picture_form.proofs.pictures.put_reconfigurations.Given as goal

abbrev pub invariant-loop-n : goal.invariant-loop-n
invariant-loop-n g l = Printed (g.K.Sink.state l.initial.out) (g.K.Sink.state l.out) (texts_below (reconfiguration_boxes l.spec l.sheet l.reports) l.n)
