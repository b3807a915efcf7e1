use Rattle.scram_io.proofs.Puts.{cut_more, prints_more}
use Rattle.picture_form.specs.Picture.{legend_line}
use Rattle.picture_form.specs.Styles.{part_text}
use Rattle.picture_form.specs.declared.styles.Part.TheVariants.{Legend}
use Rattle.picture_form.proofs.pictures.put_legend.Goals as goal

pub returns-in-Ok : goal.returns-in-Ok
returns-in-Ok g c =
    prints_more c.put_part.result _ _ _ (legend_line c.args.sheet)
    (part_text Legend) (rw (c.as_bytes.ensures, c.make_legend_line.ensures) at c.in-Ok.ensures) c.put_part.ensures

pub returns-in-Err : goal.returns-in-Err
returns-in-Err g c =
    cut_more _ _ (legend_line c.args.sheet)
    (part_text Legend) (rw (c.as_bytes.ensures, c.make_legend_line.ensures) at c.in-Err.ensures)
