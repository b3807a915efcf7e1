use Rattle.std.proofs.Common.{◌≡◌, ◌-◌, [], length}
use Rattle.word_table.specs.Actors.{with_actors}
use Rattle.word_table.specs.Rule.{first_view, opening_actors}
use Rattle.word_table.specs.Tables.{mission_in}
use Rattle.word_table.proofs.Dealt.{AreDealt}
use Rattle.word_table.proofs.tables.WordTable.deal.Given as goal

abbrev pub invariant-loop-p : goal.invariant-loop-p
invariant-loop-p l = record {
  table : l.rest.table_id ≡ l.fn.rest.table_id;
  seat : l.rest.me ≡ (with_actors (first_view (mission_in l.self)) (opening_actors l.p (length (mission_in l.self).spec.procs - l.p)), []);
  count : length l.seats.items ≡ l.p;
  dealt : AreDealt l.self l.seats.items;
}
