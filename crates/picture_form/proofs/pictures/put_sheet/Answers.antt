use Rattle.scram_io.proofs.Puts.{cut_more, prints_more}
use Rattle.picture_form.specs.Picture.{body_text, head_text}
use Rattle.picture_form.proofs.pictures.put_sheet.Goals as goal

pub returns-in-Ok : goal.returns-in-Ok
returns-in-Ok g c =
    prints_more c.put_body.result _ _ _ (head_text c.args.sheet)
    (body_text c.args.spec.now c.args.sheet c.args.rows.now c.args.reports.now) c.in-Ok.ensures c.put_body.ensures

pub returns-in-Err : goal.returns-in-Err
returns-in-Err g c =
    cut_more _ _ (head_text c.args.sheet)
    (body_text c.args.spec.now c.args.sheet c.args.rows.now c.args.reports.now) c.in-Err.ensures
