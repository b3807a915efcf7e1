use Rattle.form_base.proofs.Endings.{answered_prints, found_ends, put_taken}
use Rattle.faults_form.specs.Counts.{number}
use Rattle.faults_form.specs.Families.{family_text}
use Rattle.faults_form.proofs.forms.faults.Goals as goal

pub returns-in-Ok : goal.returns-in-Ok
returns-in-Ok g c =
    rw (c.status_after.ensures)
    (found_ends _ _ _ _ _ _ _ _ c.in-Ok.ensures
    (answered_prints (family_text c.in-Ok.family.spec (number c.in-Ok.family.count)) _ _ _
    (put_taken c.put_family-put.result 0 _ _ _ (rw (c.spec.ensures) at c.put_family-put.ensures))))
