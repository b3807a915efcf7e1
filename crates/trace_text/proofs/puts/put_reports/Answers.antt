use Rattle.std.proofs.Common.{arith}
use Rattle.scram_io.proofs.Puts.{printed_more, cut_in}
use Rattle.trace_text.proofs.Steps.{reports_more}
use Rattle.trace_text.proofs.puts.put_reports.Goals as goal

pub returns-in-Err : goal.returns-in-Err
returns-in-Err g c =
    let known = c.loop-report.invariant in
    cut_in _ _ _ _ known.0 _ _
    (reports_more c.args.spec.now c.args.reports.now c.loop-report.report-index _ known.0 (omega arith) known.1) known.2 c.in-Err.ensures

pub loop-report-preserved : goal.loop-report-preserved
loop-report-preserved g c =
    let known = c.loop-report.invariant in (
      _,
      reports_more c.args.spec.now c.args.reports.now c.loop-report.report-index _ known.0 (omega arith) known.1,
      printed_more _ _ _ known.0 _ known.2 c.in-Ok.ensures,
    )
