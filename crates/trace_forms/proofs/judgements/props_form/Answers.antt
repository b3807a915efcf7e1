use Rattle.form_base.proofs.Endings.{found_ends}
use Rattle.trace_forms.proofs.Judged.{judgement_prints}
use Rattle.trace_forms.proofs.judgements.props_form.Goals as goal

pub returns-in-Ok : goal.returns-in-Ok
returns-in-Ok g c =
    found_ends _ _ _ _ _ _ _ _ c.in-Ok.ensures.reads (judgement_prints c.in-Ok.judgement _ _ _ c.in-Ok.ensures.verdict (rw (c.as_bytes.ensures) at c.print_text.ensures))
