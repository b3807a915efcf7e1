use Rattle.std.proofs.Common.{[], ◌∷◌}
use Rattle.scram_types.specs.Specification.{Parts}
use Rattle.scram_types.specs.declared.rows.Flown.{Flown}
use Rattle.form_base.specs.Answers.{WithoutFiles}
use Rattle.form_base.proofs.SpecReading.{specification_reads, specification_unread}
use Rattle.form_base.specs.trace_files.Traces.{AsksTrace}
use Rattle.trace_forms.specs.Answers.{IsJudgement}
use Rattle.trace_forms.specs.Verdicts.{GivesJudgement}
use Rattle.trace_forms.proofs.judgements.read_judgement.Goals as goal

pub returns-in-Ok-clause-reads : goal.returns-in-Ok-clause-reads
returns-in-Ok-clause-reads g c =
    let trace = c.args.named.trace.now in
    specification_reads c.args.named.specification.now (trace ∷ []) (λ (spec : Parts). AsksTrace spec trace (λ (flown : Flown). WithoutFiles (IsJudgement spec flown))) GivesJudgement
    c.in-Ok.spec _ _ _ c.judge_file-judgement.result c.in-Ok.ensures.loads c.load.ensures.steady c.judge_file-judgement.ensures.reads

pub returns-in-Err-clause-reads : goal.returns-in-Err-clause-reads
returns-in-Err-clause-reads g c =
    let trace = c.args.named.trace.now in
    specification_unread c.args.named.specification.now (trace ∷ []) (λ (spec : Parts). AsksTrace spec trace (λ (flown : Flown). WithoutFiles (IsJudgement spec flown))) _ _
    c.in-Err.refusal c.in-Err.ensures.loads c.load.ensures.steady c.in-Err.ensures.unread
