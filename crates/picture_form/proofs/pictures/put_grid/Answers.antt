use Rattle.std.proofs.Common.{length}
use Rattle.scram_io.proofs.Puts.{cut_more, prints_more}
use Rattle.form_base.specs.Texts.{texts_below}
use Rattle.picture_form.specs.Picture.{ticks_text}
use Rattle.picture_form.specs.Reconfigurations.{begin_text}
use Rattle.picture_form.proofs.pictures.put_grid.Goals as goal

pub returns-in-Ok : goal.returns-in-Ok
returns-in-Ok g c =
    prints_more c.put_begins.result _ _ _ (ticks_text c.args.sheet)
    (texts_below (begin_text c.args.sheet c.args.reports.now) (length c.args.reports.now)) c.in-Ok.ensures c.put_begins.ensures

pub returns-in-Err : goal.returns-in-Err
returns-in-Err g c =
    cut_more _ _ (ticks_text c.args.sheet)
    (texts_below (begin_text c.args.sheet c.args.reports.now) (length c.args.reports.now)) c.in-Err.ensures
