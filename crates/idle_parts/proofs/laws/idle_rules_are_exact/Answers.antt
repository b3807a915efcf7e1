use Rattle.idle_parts.proofs.Told.{idle_rules_are_exact}
use Rattle.idle_parts.proofs.laws.idle_rules_are_exact.Goals as goal

pub returns : goal.returns
returns c = idle_rules_are_exact
