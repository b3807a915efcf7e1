use Rattle.std.proofs.Common.{append_assoc, refl}
use Rattle.picture_form.proofs.reconfigurations.add_bound_rect.Goals as goal

pub returns-in-Some-clause-text : goal.returns-in-Some-clause-text
returns-in-Some-clause-text c =
    rw (c.in-Some.is, c.text-in-Some.ensures.text, c.add_box.ensures.text, c.text.ensures.text, c.x.ensures.value, c.rows_width.ensures, c.from.ensures, c.from-in-Some.ensures, c.from-in-Some-2.ensures)
    (simp append_assoc refl)
