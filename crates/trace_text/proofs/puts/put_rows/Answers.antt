use Rattle.std.proofs.Common.{arith}
use Rattle.scram_io.proofs.Puts.{printed_more, cut_in}
use Rattle.trace_text.proofs.Steps.{rows_more}
use Rattle.trace_text.proofs.puts.put_rows.Goals as goal

pub returns-in-Err : goal.returns-in-Err
returns-in-Err g c =
    let known = c.loop-row.invariant in
    cut_in _ _ _ _ known.0 _ _
    (rows_more c.args.spec.now c.args.rows.now c.loop-row.row-index _ known.0 (omega arith) known.1) known.2 c.in-Err.ensures

pub loop-row-preserved : goal.loop-row-preserved
loop-row-preserved g c =
    let known = c.loop-row.invariant in (
      _,
      rows_more c.args.spec.now c.args.rows.now c.loop-row.row-index _ known.0 (omega arith) known.1,
      printed_more _ _ _ known.0 _ known.2 c.in-Ok.ensures,
    )
