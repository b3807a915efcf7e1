use Rattle.std.proofs.Common.{◌≡◌, ◌+◌, ◌<◌, ℕ, length}
use Rattle.std.specs.Prelude.{slice_index}
use Rattle.word_table.specs.Plays.{IsFound}
use Rattle.word_table.specs.Tables.{flight_in}
use Rattle.word_table.proofs.tables.WordTable.read_kernel.Given as goal

abbrev pub invariant-loop-i : goal.invariant-loop-i
invariant-loop-i l = record {
  table : l.seat.table_id ≡ l.fn.seat.table_id;
  same : l.seat.me ≡ l.fn.seat.me;
  long : length l.words ≡ 20;
  read : (i : ℕ) → i < l.i → IsFound (flight_in l.self) l.fn.seat.me.0.actors (8 + i) (slice_index l.words i);
}
