use Rattle.std.proofs.Common.{length}
use Rattle.trace_text.specs.Text.{rows_text, ending_text}
use Rattle.scram_io.proofs.Puts.{prints_more, cut_more}
use Rattle.trace_text.proofs.puts.put_trace.Goals as goal

pub returns-in-Ok : goal.returns-in-Ok
returns-in-Ok g c =
    prints_more c.put_ending.result _ _ _ (rows_text c.args.spec.now c.args.rows.now)
    (ending_text c.args.spec.now (length c.args.rows.now) c.args.reports.now) c.in-Ok.ensures c.put_ending.ensures

pub returns-in-Err : goal.returns-in-Err
returns-in-Err g c =
    cut_more _ _ (rows_text c.args.spec.now c.args.rows.now)
    (ending_text c.args.spec.now (length c.args.rows.now) c.args.reports.now) c.in-Err.ensures
