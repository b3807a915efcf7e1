use Rattle.std.proofs.Common.{◌++◌}
use Rattle.form_base.proofs.Endings.{answered_prints, found_ends, put_taken}
use Rattle.spec_forms.proofs.choice_forms.choosing.choose.Goals as goal

pub returns-in-Ok : goal.returns-in-Ok
returns-in-Ok g c =
    rw (c.status_after.ensures)
    (found_ends _ _ _ _ _ _ _ _ c.in-Ok.ensures (answered_prints (c.in-Ok.chosen.choice ++ c.in-Ok.chosen.needs) _ _ _ (put_taken c.put_chosen.result 0 _ _ _ c.put_chosen.ensures)))
