use Rattle.std.proofs.Common.{length}
use Rattle.scram_io.proofs.Puts.{cut_more, prints_more}
use Rattle.form_base.specs.Texts.{texts_below}
use Rattle.picture_form.specs.Picture.{stable_spans}
use Rattle.picture_form.specs.Reconfigurations.{reconfiguration_boxes}
use Rattle.picture_form.proofs.pictures.put_top.Goals as goal

pub returns-in-Ok : goal.returns-in-Ok
returns-in-Ok g c =
    prints_more c.put_reconfigurations.result _ _ _ (stable_spans c.args.spec.now c.args.sheet c.args.rows.now)
    (texts_below (reconfiguration_boxes c.args.spec.now c.args.sheet c.args.reports.now) (length c.args.reports.now)) c.in-Ok.ensures c.put_reconfigurations.ensures

pub returns-in-Err : goal.returns-in-Err
returns-in-Err g c =
    cut_more _ _ (stable_spans c.args.spec.now c.args.sheet c.args.rows.now)
    (texts_below (reconfiguration_boxes c.args.spec.now c.args.sheet c.args.reports.now) (length c.args.reports.now)) c.in-Err.ensures
