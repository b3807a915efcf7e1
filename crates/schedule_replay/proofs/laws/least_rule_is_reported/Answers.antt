use Rattle.schedule_replay.proofs.LeastRule.{least_rule as law}
use Rattle.schedule_replay.proofs.laws.least_rule_is_reported.Goals as goal

pub returns : goal.returns
returns c = law
