use Rattle.std.proofs.Common.{◌≡◌, ◌++◌}
use Rattle.form_base.specs.Texts.{texts_below}
use Rattle.explain_form.specs.Outsides.{change_frame_text}
use Rattle.explain_form.proofs.outsides.add_change_frames.Given as goal

abbrev pub invariant-loop-frame : goal.invariant-loop-frame
invariant-loop-frame l = l.text.items ≡ l.initial.text.items ++ texts_below (change_frame_text l.spec l.script l.last) l.frame
