use Rattle.std.proofs.Common.{rules}
use Rattle.acceptance_breaks.proofs.texts.add_more.Goals as goal

pub returns : goal.returns
returns c = search rules
