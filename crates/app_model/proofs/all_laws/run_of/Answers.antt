use Rattle.std.proofs.Common.{rules}
use Rattle.app_model.proofs.all_laws.run_of.Goals as goal

pub returns-in-3 : goal.returns-in-3
returns-in-3 c = search rules
