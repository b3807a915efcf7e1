use Rattle.std.proofs.Common.{refl}
use Rattle.picture_form.proofs.reconfigurations.make_report.Goals as goal

pub returns : goal.returns
returns c =
    rw (c.text-3.ensures.text, c.add_title.ensures.text, c.text-2.ensures.text, c.add_box.ensures.text, c.text.ensures.text, c.add_bound_rect.ensures.text, c.new-line.ensures, c.bound_of.ensures, c.x.ensures.value, c.from.ensures, c.rows_width.ensures, c.from-2.ensures)
    refl
