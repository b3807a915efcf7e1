use Rattle.std.proofs.Common.{[]}
use Rattle.scram_types.specs.Specification.{Parts}
use Rattle.coverage_check.specs.Form.{state_refusal}
use Rattle.form_base.specs.Answers.{Gives, WithoutFiles}
use Rattle.form_base.proofs.Reading.{settled}
use Rattle.form_base.proofs.SpecReading.{specification_reads, specification_unread}
use Rattle.spec_forms.specs.choice_forms.Answers.{choices_answer}
use Rattle.spec_forms.specs.choice_forms.Tables.{GivesChoices}
use Rattle.spec_forms.proofs.choice_forms.tables.read_table.Goals as goal

pub returns-in-Ok-clause-reads : goal.returns-in-Ok-clause-reads
returns-in-Ok-clause-reads g c =
    specification_reads c.args.specification.now [] (λ (spec : Parts). WithoutFiles (Gives (choices_answer spec (state_refusal spec)))) GivesChoices
    c.in-Ok.spec _ _ _ c.find_table.result c.in-Ok.ensures.loads c.load.ensures.steady
    (settled (Gives (choices_answer c.in-Ok.spec (state_refusal c.in-Ok.spec))) GivesChoices _ c.find_table.result (g.met.F.Files.steady_below _) c.find_table.ensures.prepares)

pub returns-in-Err-clause-reads : goal.returns-in-Err-clause-reads
returns-in-Err-clause-reads g c =
    specification_unread c.args.specification.now [] (λ (spec : Parts). WithoutFiles (Gives (choices_answer spec (state_refusal spec)))) _ _ c.in-Err.refusal c.in-Err.ensures.loads
    c.load.ensures.steady c.in-Err.ensures.unread
