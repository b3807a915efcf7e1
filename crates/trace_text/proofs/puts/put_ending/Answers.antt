use Rattle.std.proofs.Common.{length}
use Rattle.trace_text.specs.Text.{reports_text, end_line}
use Rattle.scram_io.proofs.Puts.{prints_more, cut_more}
use Rattle.trace_text.proofs.puts.put_ending.Goals as goal

pub returns-in-Ok : goal.returns-in-Ok
returns-in-Ok g c =
    prints_more c.put_end.result _ _ _ (reports_text c.args.spec.now c.args.reports.now)
    (end_line c.args.frames (length c.args.reports.now)) c.in-Ok.ensures c.put_end.ensures

pub returns-in-Err : goal.returns-in-Err
returns-in-Err g c =
    cut_more _ _ (reports_text c.args.spec.now c.args.reports.now)
    (end_line c.args.frames (length c.args.reports.now)) c.in-Err.ensures
