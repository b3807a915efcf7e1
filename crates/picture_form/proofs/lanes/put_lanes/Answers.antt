use Rattle.std.proofs.Common.{arith}
use Rattle.form_base.proofs.TextsBelow.{cut_below, printed_next}
use Rattle.picture_form.specs.Lanes.{lane_text}
use Rattle.picture_form.specs.Sheets.{lanes_of}
use Rattle.picture_form.proofs.lanes.put_lanes.Goals as goal

pub returns-in-Err : goal.returns-in-Err
returns-in-Err g c =
    cut_below (lane_text c.args.spec.now c.args.sheet c.args.rows.now) c.loop-n.n (lanes_of c.args.sheet) _ _ _ (omega (arith, c.loop-n-test.true, c.lanes-n-end.ensures.value)) c.loop-n.invariant c.in-Err.ensures

pub loop-n-preserved : goal.loop-n-preserved
loop-n-preserved g c = printed_next (lane_text c.args.spec.now c.args.sheet c.args.rows.now) c.loop-n.n _ _ _ c.loop-n.invariant c.in-Ok.ensures
