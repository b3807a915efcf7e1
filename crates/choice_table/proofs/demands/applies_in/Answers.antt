use Rattle.std.proofs.Common.{rules}
use Rattle.choice_table.proofs.demands.applies_in.Goals as goal

pub returns-then-are_up : goal.returns-then-are_up
returns-then-are_up c = search rules
