use Rattle.std.proofs.Common.{[]}
use Rattle.scram_types.specs.declared.limits.TheConstants.{MAX_SPECIFICATION_BYTES}
use Rattle.coverage_check.specs.Acceptance.{first_refusal}
use Rattle.form_base.specs.Answers.{Gives}
use Rattle.form_base.proofs.Reading.{document_reads, refused_reads, settled}
use Rattle.explain_form.specs.Answers.{SpecificationAnswers, GivesExplanation}
use Rattle.explain_form.specs.Texts.{explain_answer}
use Rattle.form_base.specs.Specifications.{SaysSpecification}
use Rattle.document_explanations.specs.Specifications.{BreaksExplainedSpecification, long_explained_specification}
use Rattle.explain_form.proofs.forms.read_specification.Goals as goal

pub returns-in-Ok-clause-reads : goal.returns-in-Ok-clause-reads
returns-in-Ok-clause-reads g c =
    document_reads SaysSpecification BreaksExplainedSpecification MAX_SPECIFICATION_BYTES long_explained_specification c.args.specification.now [] SpecificationAnswers GivesExplanation
    c.in-Ok.spec _ _ _ c.explain_specification.result c.in-Ok.ensures.loads c.load.ensures.steady
    (settled (Gives (explain_answer c.in-Ok.spec (first_refusal c.in-Ok.spec))) GivesExplanation _ c.explain_specification.result (g.met.F.Files.steady_below _) c.explain_specification.ensures.prepares)

pub returns-in-Err-clause-reads : goal.returns-in-Err-clause-reads
returns-in-Err-clause-reads g c =
    refused_reads SaysSpecification BreaksExplainedSpecification MAX_SPECIFICATION_BYTES long_explained_specification c.args.specification.now [] SpecificationAnswers _ _
    c.in-Err.refusal c.in-Err.ensures.loads c.load.ensures.steady c.in-Err.ensures.unread
