use Rattle.std.proofs.Common.{◌∙◌, ap, arith}
use Rattle.trace_props.specs.Judging.{conclusion, judge}
use Rattle.trace_props.proofs.JudgeSteps.{judge_last, judge_more}
use Rattle.trace_props.proofs.judging.first_in_reports.Goals as goal

pub loop-row-preserved : goal.loop-row-preserved
loop-row-preserved c =
    let at = c.loop-row.invariant.frame in
    record {
      frame = omega arith;
      judged =
          judge_more c.args.spec.now c.args.rows.now c.args.told.now c.loop-row.judgement c.judge-judgement.result c.loop-row.reading c.read_row-next.result.0 c.loop-row.frame c.loop-row.row-index _
          c.read_row-next.result.1 c.loop-row-test.true c.read_row-next.ensures.reading c.read_row-next.ensures.report c.judge-judgement.ensures
          ∙ c.loop-row.invariant.judged;
    }

pub returns : goal.returns
returns c =
    c.conclude.ensures
    ∙ ap (conclusion c.args.told.now) (c.judge.ensures ∙ ap (judge c.args.spec.now c.args.rows.now c.args.told.now c.loop-row.judgement) c.close.ensures
    ∙ judge_last c.args.spec.now c.args.rows.now c.args.told.now c.loop-row.judgement c.loop-row.reading c.loop-row.frame c.loop-row.row-index c.loop-row.invariant.frame c.loop-row-test.false c.loop-row.auto.row-index-end
    ∙ c.loop-row.invariant.judged)
