use Rattle.std.proofs.Common.{rules}
use Rattle.scram_doc.proofs.values.list.Goals as goal

pub returns-else-least-count-clause-items : goal.returns-else-least-count-clause-items
returns-else-least-count-clause-items c = search rules
