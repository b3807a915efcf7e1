use Rattle.std.proofs.Common.{◌≡◌, ◌++◌, drop}
use Rattle.frame_model.specs.Readings.{ended, ended_in, reading_after, reading_of}
use Rattle.frame_model.proofs.readings.reports.Given as goal

abbrev pub invariant-loop-row : goal.invariant-loop-row
invariant-loop-row l = record {
  frame : l.frame ≡ l.row-index;
  read : reading_after l.spec l.reading l.frame (drop l.row-index l.rows) ≡ reading_of l.spec l.rows;
  reported : l.reports.items ++ ended_in l.spec l.reading l.frame (drop l.row-index l.rows) ≡ ended l.spec l.rows;
}
