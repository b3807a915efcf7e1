use Rattle.std.proofs.Common.{rules, ◌∙◌, ◌+◌, ℤ, subst}
use Rattle.std.specs.Prelude.{slice_set}
use Rattle.word_table.specs.Plays.{IsFound, Sat}
use Rattle.word_table.specs.Tables.{flight_in}
use Rattle.word_table.proofs.Filling.{AreReadBelow, one_read}
use Rattle.word_table.proofs.tables.WordTable.read_image.Goals as goal

pub loop-i-preserved : goal.loop-i-preserved
loop-i-preserved c =
    let m = flight_in c.args.self.now in
    let actors = c.args.seat.now.me.0.actors in
    let i = c.loop-i.i in
    let word = c.load.result in
    let found = subst (λ (me : Sat). IsFound m me.0.actors (c.args.at + i) word) c.loop-i.invariant.same c.load.ensures.found in
    record {
      table = c.load.ensures.table ∙ c.loop-i.invariant.table;
      same = c.load.ensures.same ∙ c.loop-i.invariant.same;
      read = subst (λ (x : ℤ). AreReadBelow m actors c.args.at c.args.from (i + 1) (slice_set c.loop-i.image i x)) (search rules)
          (one_read m actors c.args.at c.args.from i c.loop-i.image word c.loop-i.invariant.read (search rules) found);
    }
