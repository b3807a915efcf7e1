use Rattle.std.proofs.Common.{rules}
use Rattle.choice_table.proofs.choices.are_up.Goals as goal

pub returns : goal.returns
returns c = search rules
