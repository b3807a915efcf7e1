use Rattle.scram_io.proofs.Puts.{cut_more, prints_more}
use Rattle.picture_form.specs.Picture.{altitude_text, heading_text}
use Rattle.picture_form.proofs.quantities.put_curves.Goals as goal

pub returns-in-Ok : goal.returns-in-Ok
returns-in-Ok g c =
    prints_more c.put_heading.result _ _ _ (altitude_text c.args.sheet c.args.rows.now)
    (heading_text c.args.sheet c.args.rows.now) c.in-Ok.ensures c.put_heading.ensures

pub returns-in-Err : goal.returns-in-Err
returns-in-Err g c =
    cut_more _ _ (altitude_text c.args.sheet c.args.rows.now)
    (heading_text c.args.sheet c.args.rows.now) c.in-Err.ensures
