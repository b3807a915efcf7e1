use Rattle.std.proofs.Common.{[]}
use Rattle.std.specs.Prelude.{Ok}
use Rattle.scram_types.specs.declared.rows.Flown.{Flown}
use Rattle.form_base.specs.Answers.{WithoutFiles}
use Rattle.form_base.proofs.Reading.{settled}
use Rattle.form_base.proofs.trace_files.FileReading.{trace_reads, trace_unread}
use Rattle.trace_forms.proofs.Judged.{judgement_settles}
use Rattle.trace_forms.specs.Answers.{IsJudgement}
use Rattle.trace_forms.specs.Verdicts.{GivesJudgement}
use Rattle.trace_forms.proofs.judgements.judge_file.Goals as goal

pub returns-in-Ok-clause-reads : goal.returns-in-Ok-clause-reads
returns-in-Ok-clause-reads g c =
    trace_reads c.args.spec.now c.args.trace.now [] (λ (flown : Flown). WithoutFiles (IsJudgement c.args.spec.now flown)) GivesJudgement
    c.in-Ok.flown _ _ _ (Ok c.judge-judgement.result) c.in-Ok.ensures.loads c.load.ensures.steady
    (settled (IsJudgement c.args.spec.now c.in-Ok.flown) GivesJudgement _ (Ok c.judge-judgement.result) (g.met.F.Files.steady_below _)
    (judgement_settles c.args.spec.now c.in-Ok.flown c.judge-judgement.result c.judge-judgement.ensures.is))

pub returns-in-Err-clause-reads : goal.returns-in-Err-clause-reads
returns-in-Err-clause-reads g c =
    trace_unread c.args.spec.now c.args.trace.now [] (λ (flown : Flown). WithoutFiles (IsJudgement c.args.spec.now flown)) _ _
    c.in-Err.refusal c.in-Err.ensures.loads c.load.ensures.steady c.in-Err.ensures.unread
