use Rattle.std.proofs.Common.{rules}
use Rattle.word_table.proofs.tables.WordTable.frame_awaited.Goals as goal

pub returns-in-Some : goal.returns-in-Some
returns-in-Some c = search rules
