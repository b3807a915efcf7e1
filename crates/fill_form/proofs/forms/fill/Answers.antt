use Rattle.form_base.proofs.Endings.{answered_prints, found_ends}
use Rattle.fill_form.proofs.forms.fill.Goals as goal

pub returns-in-Ok : goal.returns-in-Ok
returns-in-Ok g c = found_ends _ _ _ _ _ _ _ _ c.in-Ok.ensures (answered_prints c.in-Ok.text.items _ _ _ (rw (c.deref.ensures.value) at c.print_text.ensures))
