use Rattle.std.proofs.Common.{◌≡◌}
use Rattle.word_table.specs.Tables.{flight_in}
use Rattle.word_table.proofs.Filling.{AreReadBelow}
use Rattle.word_table.proofs.tables.WordTable.read_image.Given as goal

abbrev pub invariant-loop-i : goal.invariant-loop-i
invariant-loop-i l = record {
  table : l.seat.table_id ≡ l.fn.seat.table_id;
  same : l.seat.me ≡ l.fn.seat.me;
  read : AreReadBelow (flight_in l.self) l.fn.seat.me.0.actors l.at l.from l.i l.image;
}
