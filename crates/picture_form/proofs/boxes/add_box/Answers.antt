use Rattle.std.proofs.Common.{append_assoc}
use Rattle.picture_form.specs.Boxes.{box_text}
use Rattle.picture_form.proofs.boxes.add_box.Goals as goal

pub returns-clause-text : goal.returns-clause-text
unfolding box_text
returns-clause-text c = rw (c.text-2.ensures.text, c.add_number.ensures.text, c.text.ensures.text, c.add_place.ensures.text) (simp append_assoc)
