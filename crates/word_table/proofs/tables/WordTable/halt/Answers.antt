use Rattle.std.proofs.Common.{rules, arith}
use Rattle.scram_types.specs.Lookups.{proc_id}
use Rattle.bank_words.specs.declared.events.Event.TheVariants.{Halt}
use Rattle.word_table.specs.Tables.{flight_in, mission_in, proc_of}
use Rattle.word_table.proofs.Allowing.{halt_allows}
use Rattle.word_table.proofs.Seating.{sound}
use Rattle.word_table.proofs.Stepping.{runs_there, step_is}
use Rattle.word_table.proofs.tables.WordTable.halt.Goals as goal

pub store-requires : goal.store-requires
store-requires c =
    let words = c.args.self.now in
    let seat = c.args.seat.now in
    let m = flight_in words in
    let step = step_is m (proc_of seat) seat.frame seat.step seat.halted (Halt (proc_id (proc_of seat))) c.requires.next in (
      c.requires.seat.table,
      omega (arith, c.requires.seat.proc, words.keeps.places, c.requires.seat.holds.facts.procs_count.few, c.end_index-at.ensures),
      halt_allows (mission_in words) words.table.shared.table_id.slots seat.inner.id seat.inner.me (sound (mission_in words) c.requires.seat.holds.facts c.requires.seat.holds.fits) seat.empty
          (proc_of seat) seat.frame step.before c.requires.seat.proc (runs_there m (proc_of seat) seat.frame seat.step seat.halted (Halt (proc_id (proc_of seat))) step seat.inner.me.0.actors seat.alone)
          _ _ step.next (search rules) (search rules),
    )
