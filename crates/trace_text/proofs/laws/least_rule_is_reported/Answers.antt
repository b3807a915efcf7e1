use Rattle.trace_text.proofs.LeastRules.{least_rule as law}
use Rattle.trace_text.proofs.laws.least_rule_is_reported.Goals as goal

pub returns : goal.returns
returns c = law
