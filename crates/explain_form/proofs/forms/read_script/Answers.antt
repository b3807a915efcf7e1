use Rattle.std.proofs.Common.{[]}
use Rattle.scram_types.specs.declared.limits.TheConstants.{MAX_SCRIPT_BYTES}
use Rattle.coverage_check.specs.Acceptance.{first_refusal}
use Rattle.form_base.specs.Answers.{Gives}
use Rattle.form_base.proofs.Reading.{document_reads, refused_reads, settled}
use Rattle.explain_form.specs.Answers.{MissionAnswers, GivesExplanation}
use Rattle.explain_form.specs.Texts.{script_answer}
use Rattle.form_base.specs.mission_files.Documents.{SaysScript}
use Rattle.document_explanations.specs.Scripts.{BreaksExplainedScript, long_explained_script}
use Rattle.explain_form.proofs.forms.read_script.Goals as goal

pub returns-in-Ok-clause-reads : goal.returns-in-Ok-clause-reads
returns-in-Ok-clause-reads g c =
    let spec = c.args.spec in
    let script = c.in-Ok.script in
    document_reads (SaysScript spec) (BreaksExplainedScript spec) MAX_SCRIPT_BYTES long_explained_script c.args.script.now [] (MissionAnswers spec) GivesExplanation script _ _ _
    c.explain_both.result c.in-Ok.ensures.loads c.load.ensures.steady
    (settled (Gives (script_answer spec script (first_refusal spec))) GivesExplanation _ c.explain_both.result (g.met.F.Files.steady_below _) c.explain_both.ensures.prepares)

pub returns-in-Err-clause-reads : goal.returns-in-Err-clause-reads
returns-in-Err-clause-reads g c =
    refused_reads (SaysScript c.args.spec) (BreaksExplainedScript c.args.spec) MAX_SCRIPT_BYTES long_explained_script c.args.script.now [] (MissionAnswers c.args.spec) _ _
    c.in-Err.refusal c.in-Err.ensures.loads c.load.ensures.steady c.in-Err.ensures.unread
