use Rattle.form_base.proofs.Endings.{found_ends, given_prints}
use Rattle.explain_form.proofs.forms.explain.Goals as goal

pub returns-in-Ok : goal.returns-in-Ok
returns-in-Ok g c =
    found_ends _ _ _ _ _ _ _ _ c.in-Ok.ensures.reads
    (given_prints c.in-Ok.explanation.code c.in-Ok.explanation.text.items _ _ _ c.in-Ok.ensures.told.read c.in-Ok.ensures.told.written (rw (c.deref.ensures.value) at c.print_text.ensures))
