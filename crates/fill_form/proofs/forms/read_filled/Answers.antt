use Rattle.std.proofs.Common.{[]}
use Rattle.scram_types.specs.Specification.{Parts}
use Rattle.form_base.specs.Answers.{Gives, WithoutFiles}
use Rattle.form_base.proofs.Reading.{settled}
use Rattle.form_base.proofs.SpecReading.{specification_reads, specification_unread}
use Rattle.fill_form.specs.Answers.{fill_answer}
use Rattle.fill_form.specs.Refusing.{fill_refusal}
use Rattle.fill_form.proofs.forms.read_filled.Goals as goal

pub returns-in-Ok : goal.returns-in-Ok
returns-in-Ok g c =
    specification_reads c.args.specification.now [] (λ (spec : Parts). WithoutFiles (Gives (fill_answer spec (fill_refusal spec)))) _
    c.in-Ok.spec _ _ _ c.fill_in.result c.in-Ok.ensures.loads c.load.ensures.steady
    (settled (Gives (fill_answer c.in-Ok.spec (fill_refusal c.in-Ok.spec))) _ _ c.fill_in.result (g.met.F.Files.steady_below _) c.fill_in.ensures)

pub returns-in-Err : goal.returns-in-Err
returns-in-Err g c =
    specification_unread c.args.specification.now [] (λ (spec : Parts). WithoutFiles (Gives (fill_answer spec (fill_refusal spec)))) _ _ c.in-Err.refusal c.in-Err.ensures.loads
    c.load.ensures.steady c.in-Err.ensures.unread
