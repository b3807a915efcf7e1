use Rattle.std.proofs.Common.{rules}
use Rattle.coverage_check.proofs.holding.holds_reaching.Goals as goal

pub returns-then-holds_during : goal.returns-then-holds_during
returns-then-holds_during c = search rules
