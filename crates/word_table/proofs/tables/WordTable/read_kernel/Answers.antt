use Rattle.std.proofs.Common.{◌∙◌, subst}
use Rattle.std.proofs.lemmas.List.{length-set}
use Rattle.word_table.specs.Plays.{IsFound, Sat}
use Rattle.word_table.specs.Tables.{flight_in}
use Rattle.word_table.proofs.Filling.{more_found}
use Rattle.word_table.proofs.tables.WordTable.read_kernel.Goals as goal

pub loop-i-preserved : goal.loop-i-preserved
loop-i-preserved c =
    let m = flight_in c.args.self.now in
    let actors = c.args.seat.now.me.0.actors in
    let word = c.load.result in
    record {
      table = c.load.ensures.table ∙ c.loop-i.invariant.table;
      same = c.load.ensures.same ∙ c.loop-i.invariant.same;
      long = length-set c.loop-i.words c.loop-i.i word ∙ c.loop-i.invariant.long;
      read = more_found m actors c.loop-i.i c.loop-i.words word c.loop-i.invariant.long c.loop-i.invariant.read c.loop-i-test.true
          (subst (λ k. IsFound m actors k word) c.kernel_index.ensures (subst (λ (me : Sat). IsFound m me.0.actors c.kernel_index.result word) c.loop-i.invariant.same c.load.ensures.found));
    }
