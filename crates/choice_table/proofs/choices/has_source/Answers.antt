use Rattle.std.proofs.Common.{rules}
use Rattle.choice_table.proofs.choices.has_source.Goals as goal

pub returns-in-Some : goal.returns-in-Some
returns-in-Some c = search rules
