use Rattle.scram_io.proofs.Puts.{cut_more, prints_more}
use Rattle.picture_form.specs.Picture.{open_line}
use Rattle.picture_form.specs.Styles.{part_text}
use Rattle.picture_form.specs.declared.styles.Part.TheVariants.{Style}
use Rattle.picture_form.proofs.pictures.put_head.Goals as goal

pub returns-in-Ok : goal.returns-in-Ok
returns-in-Ok g c =
    prints_more c.put_part.result _ _ _ (open_line c.args.sheet)
    (part_text Style) (rw (c.as_bytes.ensures, c.make_open_line.ensures) at c.in-Ok.ensures) c.put_part.ensures

pub returns-in-Err : goal.returns-in-Err
returns-in-Err g c =
    cut_more _ _ (open_line c.args.sheet)
    (part_text Style) (rw (c.as_bytes.ensures, c.make_open_line.ensures) at c.in-Err.ensures)
