use Rattle.std.proofs.Common.{rules}
use Rattle.app_model.proofs.orders.is_last.Goals as goal

pub returns : goal.returns
returns c = search rules
