use Rattle.scram_io.proofs.Puts.{cut_more, prints_more}
use Rattle.picture_form.specs.Picture.{conf_strip}
use Rattle.picture_form.specs.Lanes.{spans_text}
use Rattle.picture_form.specs.Styles.{part_text}
use Rattle.picture_form.specs.declared.styles.Part.TheVariants.{Names}
use Rattle.picture_form.proofs.pictures.put_stable_spans.Goals as goal

pub returns-in-Ok : goal.returns-in-Ok
returns-in-Ok g c =
    prints_more c.put_spans.result _ _ _ (part_text Names)
    (spans_text c.args.spec.now c.args.sheet c.args.rows.now conf_strip) c.in-Ok.ensures c.put_spans.ensures

pub returns-in-Err : goal.returns-in-Err
returns-in-Err g c =
    cut_more _ _ (part_text Names)
    (spans_text c.args.spec.now c.args.sheet c.args.rows.now conf_strip) c.in-Err.ensures
