use Rattle.std.proofs.Common.{[]}
use Rattle.scram_types.specs.Specification.{Parts}
use Rattle.coverage_check.specs.Acceptance.{first_refusal}
use Rattle.form_base.specs.Answers.{Gives, WithoutFiles}
use Rattle.form_base.proofs.Reading.{settled}
use Rattle.form_base.proofs.SpecReading.{specification_reads, specification_unread}
use Rattle.faults_form.specs.Answers.{GivesFamily, faults_answer}
use Rattle.faults_form.proofs.forms.read_family.Goals as goal

pub returns-in-Ok : goal.returns-in-Ok
returns-in-Ok g c =
    specification_reads c.args.question.specification.now [] (λ (spec : Parts). WithoutFiles (Gives (faults_answer spec c.args.question.count (first_refusal spec)))) GivesFamily
    c.in-Ok.spec _ _ _ c.find_family.result c.in-Ok.ensures.loads c.load.ensures.steady
    (settled (Gives (faults_answer c.in-Ok.spec c.args.question.count (first_refusal c.in-Ok.spec))) GivesFamily _ c.find_family.result (g.met.F.Files.steady_below _) c.find_family.ensures)

pub returns-in-Err : goal.returns-in-Err
returns-in-Err g c =
    specification_unread c.args.question.specification.now [] (λ (spec : Parts). WithoutFiles (Gives (faults_answer spec c.args.question.count (first_refusal spec)))) _ _ c.in-Err.refusal c.in-Err.ensures.loads
    c.load.ensures.steady c.in-Err.ensures.unread
