use Rattle.std.proofs.Common.{rules}
use Rattle.fill_form.proofs.filling.raised.Goals as goal

pub returns-then-is_asked : goal.returns-then-is_asked
returns-then-is_asked c = search rules
