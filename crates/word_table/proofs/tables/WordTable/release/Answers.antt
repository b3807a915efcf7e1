use Rattle.std.proofs.Common.{refl, arith}
use Rattle.word_table.specs.Tables.{mission_in}
use Rattle.word_table.proofs.Allowing.{release_allows}
use Rattle.word_table.proofs.Seating.{sound}
use Rattle.word_table.proofs.tables.WordTable.release.Goals as goal

pub store-requires : goal.store-requires
store-requires c =
    let words = c.args.self.now in
    let kseat = c.args.kseat.now in (
      c.requires.seat.table,
      omega (arith, words.keeps.places),
      release_allows (mission_in words) words.table.shared.table_id.slots kseat.inner.id kseat.inner.me (sound (mission_in words) c.requires.seat.holds.facts c.requires.seat.holds.fits) kseat.empty
          kseat.frame kseat.step 0 _ (omega (arith, c.requires.frame)) c.requires.next kseat.alone refl (omega (arith, c.from-release.ensures)),
    )
