use Rattle.std.proofs.Common.{rules}
use Rattle.acceptance_breaks.proofs.choice_lines.add_chosen.Goals as goal

pub returns-clause-text : goal.returns-clause-text
returns-clause-text c = search rules
