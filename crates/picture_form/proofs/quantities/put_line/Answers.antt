use Rattle.scram_io.proofs.Puts.{cut_more, prints_more}
use Rattle.picture_form.specs.Curves.{curve_begin, points_text}
use Rattle.picture_form.proofs.quantities.put_line.Goals as goal

pub returns-in-Ok : goal.returns-in-Ok
returns-in-Ok g c =
    prints_more c.put_points.result _ _ _ (curve_begin c.args.sheet c.args.curve.y)
    (points_text c.args.sheet c.args.rows.now c.args.curve) (rw (c.as_bytes.ensures, c.make_curve_begin.ensures) at c.in-Ok.ensures) c.put_points.ensures

pub returns-in-Err : goal.returns-in-Err
returns-in-Err g c =
    cut_more _ _ (curve_begin c.args.sheet c.args.curve.y)
    (points_text c.args.sheet c.args.rows.now c.args.curve) (rw (c.as_bytes.ensures, c.make_curve_begin.ensures) at c.in-Err.ensures)
