use Rattle.std.proofs.Common.{◌≡◌, ◌∷◌, ◌++◌, map}
use Rattle.std.specs.Vec.Iter.{into_iter_items, into_iter_len}
use Rattle.std.specs.Prelude.{length}
use Rattle.word_table.specs.declared.actors.Actor.TheVariants.{Kernel}
use Rattle.word_table.specs.Tables.{actor_of, kernel_frame, kernel_steps}
use Rattle.word_table.proofs.tables.WordTable.gather.Given as goal

abbrev pub invariant-loop-seat : goal.invariant-loop-seat
invariant-loop-seat l = record {
  all : l.yielded ++ into_iter_items l.seat-iterator ≡ l.fn.seats.items;
  long : into_iter_len l.seat-iterator ≡ length (into_iter_items l.seat-iterator);
  table : l.all.table_id ≡ l.self.table.shared.table_id;
  actors : l.all.me.0.actors ≡ Kernel (kernel_frame l.fn.kseat) (kernel_steps l.fn.kseat) ∷ map actor_of l.yielded;
}
