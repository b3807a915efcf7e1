use Rattle.scram_io.proofs.Puts.{cut_more, prints_more}
use Rattle.picture_form.specs.Picture.{foot_text}
use Rattle.picture_form.specs.Lanes.{lanes_text}
use Rattle.picture_form.proofs.pictures.put_lanes_and_foot.Goals as goal

pub returns-in-Ok : goal.returns-in-Ok
returns-in-Ok g c =
    prints_more c.put_foot.result _ _ _ (lanes_text c.args.spec.now c.args.sheet c.args.rows.now)
    (foot_text c.args.sheet c.args.rows.now) c.in-Ok.ensures c.put_foot.ensures

pub returns-in-Err : goal.returns-in-Err
returns-in-Err g c =
    cut_more _ _ (lanes_text c.args.spec.now c.args.sheet c.args.rows.now)
    (foot_text c.args.sheet c.args.rows.now) c.in-Err.ensures
