use Rattle.std.proofs.Common.{rules}
use Rattle.reconf_spec.proofs.texts.with_demands.Goals as goal

pub returns : goal.returns
returns c = search rules
