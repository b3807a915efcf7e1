use Rattle.std.proofs.Common.{◌≡◌, ◌∙◌, sym, arith, [], ◌∷◌, length, map}
use Rattle.std.specs.Vec.Iter.{into_iter_items}
use Rattle.word_table.specs.declared.actors.Actor.TheVariants.{Kernel}
use Rattle.word_table.specs.Tables.{actor_of, flight_in, mission_in, kernel_frame, kernel_steps}
use Rattle.word_table.proofs.Closings.{item_is}
use Rattle.word_table.proofs.Dealing.{join_allows}
use Rattle.word_table.proofs.tables.WordTable.gather.Goals as goal

pub join_seat-requires : goal.join_seat-requires
join_seat-requires c =
    let words = c.args.self.now in
    let seat = c.in-Some.seat in
    let at = c.loop-seat in
    let there = item_is c.args.seats.items at.yielded (into_iter_items at.seat-iterator) (into_iter_items c.next.new.self) seat at.invariant.all c.in-Some.ensures.steps.0 in (
      at.invariant.table,
      (c.requires.seats.each (length at.yielded) seat there).0.table,
      seat.empty,
      omega (arith, words.keeps.places),
      join_allows (flight_in words) (mission_in words) at.all.id at.all.me.0 seat.inner.id seat.inner.me.0
          (λ none. let e : Kernel (kernel_frame c.args.kseat) (kernel_steps c.args.kseat) ∷ map actor_of at.yielded ≡ [] = sym at.invariant.actors ∙ none in cc),
    )
