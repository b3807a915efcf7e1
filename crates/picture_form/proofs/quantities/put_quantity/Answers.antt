use Rattle.scram_io.proofs.Puts.{cut_more, prints_more}
use Rattle.picture_form.specs.Picture.{names_text}
use Rattle.picture_form.specs.Curves.{curve_text}
use Rattle.picture_form.proofs.quantities.put_quantity.Goals as goal

pub returns-in-Ok : goal.returns-in-Ok
returns-in-Ok g c =
    prints_more c.put_curve.result _ _ _ (names_text c.args.quantity c.args.y)
    (curve_text c.args.sheet c.args.rows.now c.args.quantity c.args.y) (rw (c.as_bytes.ensures, c.make_names.ensures) at c.in-Ok.ensures) c.put_curve.ensures

pub returns-in-Err : goal.returns-in-Err
returns-in-Err g c =
    cut_more _ _ (names_text c.args.quantity c.args.y)
    (curve_text c.args.sheet c.args.rows.now c.args.quantity c.args.y) (rw (c.as_bytes.ensures, c.make_names.ensures) at c.in-Err.ensures)
