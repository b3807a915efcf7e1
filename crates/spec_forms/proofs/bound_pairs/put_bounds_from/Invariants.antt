use Rattle.spec_forms.specs.Bounds.{bound_text_of}
use Rattle.form_base.specs.Texts.{texts_below}
use Rattle.scram_io.specs.Outside.{Printed}
use Rattle.spec_forms.proofs.bound_pairs.put_bounds_from.Given as goal

abbrev pub invariant-loop-j : goal.invariant-loop-j
invariant-loop-j g l =
    Printed (g.K.Sink.state l.initial.out) (g.K.Sink.state l.out) (texts_below (bound_text_of l.spec l.from.0) l.j)
