use Rattle.std.proofs.Common.{rules}
use Rattle.scram_doc.proofs.values.text.Goals as goal

pub returns : goal.returns
returns c = search rules
