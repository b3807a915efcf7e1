use Rattle.form_base.proofs.TextsBelow.{added_next}
use Rattle.explain_form.specs.Outsides.{change_frame_text}
use Rattle.explain_form.proofs.FramesTold.{frames_told}
use Rattle.explain_form.proofs.outsides.add_change_frames.Goals as goal

pub loop-frame-preserved : goal.loop-frame-preserved
loop-frame-preserved c =
    added_next (change_frame_text c.args.spec.now c.args.script.now c.args.last) c.loop-frame.frame c.extend_from_slice.new.self.items _ _
    c.loop-frame.invariant c.in_ok-add_change_frame.ensures

pub returns : goal.returns
returns c = frames_told c.args.spec.now c.args.script.now c.args.last c.loop-frame.frame c.args.text.now.items c.extend_from_slice.new.self.items _
    c.in_ok-extend_from_slice.ensures.items c.loop-frame-test.false c.loop-frame.auto.frame-end c.loop-frame.invariant
