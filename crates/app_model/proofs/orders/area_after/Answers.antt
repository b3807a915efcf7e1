use Rattle.std.proofs.Common.{rules}
use Rattle.app_model.proofs.orders.area_after.Goals as goal

pub returns-in-Halt-clause-law : goal.returns-in-Halt-clause-law
returns-in-Halt-clause-law c = search rules
