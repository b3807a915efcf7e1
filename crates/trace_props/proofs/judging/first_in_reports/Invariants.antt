use Rattle.std.proofs.Common.{◌≡◌, drop, length}
use Rattle.frame_model.specs.Readings.{reports}
use Rattle.trace_props.specs.Judging.{judge_all, opening_judgement}
use Rattle.trace_props.proofs.Ordering.{still_read}
use Rattle.trace_props.proofs.judging.first_in_reports.Given as goal

abbrev pub invariant-loop-row : goal.invariant-loop-row
invariant-loop-row l = record {
  frame : l.frame ≡ l.row-index;
  judged : judge_all l.spec l.rows l.told l.judgement (still_read l.spec l.reading l.frame (drop l.row-index l.rows) (length l.rows))
      ≡ judge_all l.spec l.rows l.told opening_judgement (reports l.spec l.rows);
}
