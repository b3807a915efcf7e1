use Rattle.form_base.proofs.Endings.{answered_prints, found_ends}
use Rattle.spec_forms.proofs.acceptance.check.Goals as goal

pub returns-in-Ok : goal.returns-in-Ok
returns-in-Ok g c = found_ends _ _ _ _ _ _ _ _ c.in-Ok.ensures (answered_prints c.in-Ok.line _ _ _ (rw (c.as_bytes.ensures) at c.print_text.ensures))
