use Rattle.std.proofs.Common.{rules}
use Rattle.choice_table.proofs.environments.in_scope.Goals as goal

pub returns : goal.returns
returns c = search rules
