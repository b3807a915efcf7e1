use Rattle.std.proofs.Common.{arith}
use Rattle.word_table.proofs.Allowing.{read_allows}
use Rattle.word_table.proofs.Seating.{sound}
use Rattle.word_table.proofs.tables.WordTable.load.Goals as goal

pub load-requires : goal.load-requires
load-requires c =
    let words = c.args.self.now in
    let seat = c.args.seat.now in (
      c.requires.table,
      omega (arith, c.requires.i, words.keeps.places),
      read_allows words.table.shared.key words.table.shared.table_id.slots seat.id seat.me (sound words.table.shared.key c.requires.holds.facts c.requires.holds.fits) c.requires.empty c.args.i c.requires.mission,
    )
