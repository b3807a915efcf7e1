use Rattle.std.proofs.Common.{length}
use Rattle.scram_io.proofs.Puts.{cut_more, prints_more}
use Rattle.form_base.specs.Texts.{texts_below}
use Rattle.picture_form.specs.Curves.{curve_end, point_text}
use Rattle.picture_form.proofs.quantities.put_points.Goals as goal

pub returns-in-Ok : goal.returns-in-Ok
returns-in-Ok g c =
    prints_more c.put.result _ _ _ (texts_below (point_text c.args.rows.now c.args.curve) (length c.args.rows.now))
    (curve_end c.args.sheet c.args.curve.y c.args.curve.extremes) c.in-Ok.ensures (rw (c.as_bytes.ensures, c.make_curve_end.ensures) at c.put.ensures)

pub returns-in-Err : goal.returns-in-Err
returns-in-Err g c =
    cut_more _ _ (texts_below (point_text c.args.rows.now c.args.curve) (length c.args.rows.now))
    (curve_end c.args.sheet c.args.curve.y c.args.curve.extremes) c.in-Err.ensures
