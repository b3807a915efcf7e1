use Rattle.form_base.proofs.Endings.{answered_prints, found_ends, put_taken}
use Rattle.spec_forms.specs.choice_forms.Tables.{choices_text}
use Rattle.spec_forms.proofs.choice_forms.tables.choices.Goals as goal

pub returns-in-Ok : goal.returns-in-Ok
returns-in-Ok g c =
    rw (c.status_after-status.ensures)
    (found_ends _ _ _ _ _ _ _ _ c.in-Ok.ensures.reads (answered_prints (choices_text c.in-Ok.table.spec) _ _ _ (put_taken c.put_choices.result 0 _ _ _ c.put_choices.ensures)))
