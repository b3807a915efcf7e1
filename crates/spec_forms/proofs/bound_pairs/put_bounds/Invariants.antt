use Rattle.spec_forms.specs.Bounds.{bounds_text_from}
use Rattle.form_base.specs.Texts.{texts_below}
use Rattle.scram_io.specs.Outside.{Printed}
use Rattle.spec_forms.proofs.bound_pairs.put_bounds.Given as goal

abbrev pub invariant-loop-i : goal.invariant-loop-i
invariant-loop-i g l =
    Printed (g.K.Sink.state l.initial.out) (g.K.Sink.state l.out) (texts_below (bounds_text_from l.spec) l.i)
