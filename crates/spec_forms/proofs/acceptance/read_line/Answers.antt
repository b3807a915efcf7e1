use Rattle.std.proofs.Common.{List, ℕ, []}
use Rattle.scram_types.specs.Specification.{Parts}
use Rattle.coverage_check.specs.Acceptance.{first_refusal}
use Rattle.form_base.specs.Answers.{Gives, WithoutFiles}
use Rattle.form_base.specs.declared.status.TheConstants.{ANSWERED}
use Rattle.form_base.proofs.Reading.{settled}
use Rattle.form_base.proofs.SpecReading.{specification_reads, specification_unread}
use Rattle.spec_forms.specs.Answers.{check_answer}
use Rattle.spec_forms.proofs.acceptance.read_line.Goals as goal

pub returns-in-Ok : goal.returns-in-Ok
returns-in-Ok g c =
    specification_reads c.args.specification.now [] (λ (spec : Parts). WithoutFiles (Gives (check_answer spec (first_refusal spec)))) (λ (line : List ℕ). Gives (ANSWERED, line))
    c.in-Ok.spec _ _ _ c.accepted_line_of.result c.in-Ok.ensures.loads c.load.ensures.steady
    (settled (Gives (check_answer c.in-Ok.spec (first_refusal c.in-Ok.spec))) (λ (line : List ℕ). Gives (ANSWERED, line)) _ c.accepted_line_of.result (g.met.F.Files.steady_below _) c.accepted_line_of.ensures)

pub returns-in-Err : goal.returns-in-Err
returns-in-Err g c =
    specification_unread c.args.specification.now [] (λ (spec : Parts). WithoutFiles (Gives (check_answer spec (first_refusal spec)))) _ _ c.in-Err.refusal c.in-Err.ensures.loads
    c.load.ensures.steady c.in-Err.ensures.unread
