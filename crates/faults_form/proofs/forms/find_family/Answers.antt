use Rattle.coverage_check.specs.Acceptance.{first_refusal}
use Rattle.form_base.specs.declared.status.TheConstants.{ANSWERED}
use Rattle.form_base.specs.Acceptance.{acceptance_refusal}
use Rattle.form_base.specs.Refusals.{answer_of}
use Rattle.form_base.proofs.mission_files.MissionReading.{refusal_given}
use Rattle.faults_form.specs.Counts.{number}
use Rattle.faults_form.specs.Families.{family_text}
use Rattle.faults_form.proofs.forms.find_family.Goals as goal

pub returns-in-Ok : goal.returns-in-Ok
returns-in-Ok c = λ status text is. rw (c.in-Ok.ensures.holds, ← c.in-Ok.ensures.accepted) is

pub returns-in-Err : goal.returns-in-Err
returns-in-Err c =
    let spec = c.args.spec in
    (refusal_given (acceptance_refusal spec (first_refusal spec)) (ANSWERED, family_text spec (number c.args.count)) (answer_of c.in-Err.refusal) c.in-Err.ensures.refused, c.in-Err.ensures.known)
