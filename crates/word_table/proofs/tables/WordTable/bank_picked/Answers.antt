use Rattle.std.proofs.Common.{◌∙◌, suc, rules, subst, arith, List, [], ◌∷◌}
use Rattle.word_table.specs.declared.actors.Actor.{Actor}
use Rattle.word_table.specs.declared.actors.Actor.TheVariants.{Runs}
use Rattle.word_table.specs.Plays.{IsFound}
use Rattle.word_table.specs.Tables.{flight_in, mission_in}
use Rattle.word_table.proofs.Finding.{mark_found}
use Rattle.word_table.proofs.tables.WordTable.bank_picked.Goals as goal

pub returns-clause-bank : goal.returns-clause-bank
returns-clause-bank c =
    let words = c.args.self.now in
    let reader = c.requires.reader in
    let found : IsFound (flight_in words) (Runs reader.proc c.args.frame (suc reader.before) ∷ []) c.mark_index.result c.load-mark.result =
    subst (λ (actors : List Actor). IsFound (flight_in words) actors c.mark_index.result c.load-mark.result) reader.alone c.load-mark.ensures.found in
    let picked = mark_found (mission_in words) c.requires.holds.fits reader.proc c.args.frame (suc reader.before) reader.low (omega arith) c.args.q.0 c.mark_index.result c.load-mark.result c.requires.q (search rules) found in
    (search rules) ∙ c.pick.ensures.bank ∙ picked
