use Rattle.std.proofs.Common.{◌≡◌, ◌∙◌, ap, rules}
use Rattle.std.specs.Prelude.{None, slice_index_or}
use Rattle.scram_types.proofs.Eights.{eight_at}
use Rattle.fault_script.specs.Times.{restart_of}
use Rattle.word_table.specs.Tables.{flight_in, mission_in}
use Rattle.word_table.proofs.tables.WordTable.may_note.Goals as goal

pub returns : goal.returns
returns c =
    let words = c.args.self.now in
    let known : slice_index_or words.restarts c.args.p.0 None ≡ restart_of (mission_in words).script c.args.p.0 =
    ap (λ l. slice_index_or l c.args.p.0 None) words.keeps.restarts_are ∙ eight_at (restart_of (mission_in words).script) c.args.p.0 None c.requires in
    c.may_note.ensures (flight_in words) c.args.p.0 (search rules)
