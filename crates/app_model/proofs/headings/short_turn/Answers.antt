use Rattle.std.proofs.Common.{rules}
use Rattle.app_model.proofs.headings.short_turn.Goals as goal

pub returns-clause-word : goal.returns-clause-word
returns-clause-word c = search rules
