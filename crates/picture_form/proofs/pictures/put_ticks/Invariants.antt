use Rattle.form_base.specs.Texts.{texts_below}
use Rattle.scram_io.specs.Outside.{Printed}
use Rattle.picture_form.specs.Picture.{tick_text}
use Rattle.picture_form.proofs.pictures.put_ticks.Given as goal

abbrev pub invariant-loop-j : goal.invariant-loop-j
invariant-loop-j g l = Printed (g.K.Sink.state l.initial.out) (g.K.Sink.state l.out) (texts_below (tick_text l.sheet) l.j)
