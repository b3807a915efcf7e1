use Rattle.std.proofs.Common.{rules}
use Rattle.scram_doc.proofs.members.exactly_four.Goals as goal

pub returns : goal.returns
returns c = search rules
