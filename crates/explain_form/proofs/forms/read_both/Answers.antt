use Rattle.std.proofs.Common.{[], ◌∷◌}
use Rattle.scram_types.specs.declared.limits.TheConstants.{MAX_SPECIFICATION_BYTES}
use Rattle.scram_types.specs.Specification.{Parts}
use Rattle.document_explanations.specs.Scripts.{AsksExplainedScript}
use Rattle.explain_form.specs.Answers.{MissionAnswers, GivesExplanation}
use Rattle.form_base.proofs.Reading.{document_reads, refused_reads}
use Rattle.form_base.specs.Specifications.{SaysSpecification}
use Rattle.document_explanations.specs.Specifications.{BreaksExplainedSpecification, long_explained_specification}
use Rattle.explain_form.proofs.forms.read_both.Goals as goal

pub returns-in-Ok-clause-reads : goal.returns-in-Ok-clause-reads
returns-in-Ok-clause-reads g c =
    let script = c.args.named.script.now in
    document_reads SaysSpecification BreaksExplainedSpecification MAX_SPECIFICATION_BYTES long_explained_specification c.args.named.specification.now (script ∷ [])
    (λ (spec : Parts). AsksExplainedScript spec script (MissionAnswers spec)) GivesExplanation c.in-Ok.spec _ _ _ c.read_script.result c.in-Ok.ensures.loads c.load.ensures.steady c.read_script.ensures.reads

pub returns-in-Err-clause-reads : goal.returns-in-Err-clause-reads
returns-in-Err-clause-reads g c =
    let script = c.args.named.script.now in
    refused_reads SaysSpecification BreaksExplainedSpecification MAX_SPECIFICATION_BYTES long_explained_specification c.args.named.specification.now (script ∷ [])
    (λ (spec : Parts). AsksExplainedScript spec script (MissionAnswers spec)) _ _ c.in-Err.refusal c.in-Err.ensures.loads c.load.ensures.steady c.in-Err.ensures.unread
