use Rattle.std.proofs.Common.{rules}
use Rattle.coverage_check.proofs.holding.holds_off.Goals as goal

pub returns : goal.returns
returns c = search rules
