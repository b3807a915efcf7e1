use Rattle.std.proofs.Common.{arith, length}
use Rattle.form_base.proofs.TextsBelow.{cut_below, printed_next}
use Rattle.picture_form.specs.Curves.{point_text}
use Rattle.picture_form.proofs.quantities.put_all_points.Goals as goal

pub returns-in-Err : goal.returns-in-Err
returns-in-Err g c =
    cut_below (point_text c.args.rows.now c.args.curve) c.loop-k.k (length c.args.rows.now) _ _ _ (omega (arith, c.loop-k-test.true)) c.loop-k.invariant (rw (c.as_bytes.ensures, c.make_point.ensures) at c.in-Err.ensures)

pub loop-k-preserved : goal.loop-k-preserved
loop-k-preserved g c = printed_next (point_text c.args.rows.now c.args.curve) c.loop-k.k _ _ _ c.loop-k.invariant (rw (c.as_bytes.ensures, c.make_point.ensures) at c.in-Ok.ensures)
