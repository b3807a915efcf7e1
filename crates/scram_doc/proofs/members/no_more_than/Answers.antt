use Rattle.std.proofs.Common.{rules}
use Rattle.scram_doc.proofs.members.no_more_than.Goals as goal

pub returns-in-Some-2 : goal.returns-in-Some-2
returns-in-Some-2 c = search rules
