use Rattle.std.proofs.Common.{rules}
use Rattle.scram_doc.proofs.values.whole_in.Goals as goal

pub returns-in-Some-clause-end : goal.returns-in-Some-clause-end
returns-in-Some-clause-end c = search rules
