use Rattle.std.proofs.Common.{rules}
use Rattle.reconf_spec.proofs.texts.with_policy.Goals as goal

pub returns-in_ok-text-in-Settle : goal.returns-in_ok-text-in-Settle
returns-in_ok-text-in-Settle c = search rules
