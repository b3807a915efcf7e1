use Rattle.form_base.specs.Texts.{texts_below}
use Rattle.scram_io.specs.Outside.{Printed}
use Rattle.picture_form.specs.Curves.{point_text}
use Rattle.picture_form.proofs.quantities.put_all_points.Given as goal

abbrev pub invariant-loop-k : goal.invariant-loop-k
invariant-loop-k g l = Printed (g.K.Sink.state l.initial.out) (g.K.Sink.state l.out) (texts_below (point_text l.rows l.curve) l.k)
