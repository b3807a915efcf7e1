use Rattle.scram_io.proofs.Puts.{cut_more, prints_more}
use Rattle.picture_form.specs.Picture.{curves_text, legend_text}
use Rattle.picture_form.proofs.pictures.put_foot.Goals as goal

pub returns-in-Ok : goal.returns-in-Ok
returns-in-Ok g c =
    prints_more c.put_legend.result _ _ _ (curves_text c.args.sheet c.args.rows.now)
    (legend_text c.args.sheet) c.in-Ok.ensures c.put_legend.ensures

pub returns-in-Err : goal.returns-in-Err
returns-in-Err g c =
    cut_more _ _ (curves_text c.args.sheet c.args.rows.now)
    (legend_text c.args.sheet) c.in-Err.ensures
