use Rattle.std.proofs.Common.{rules}
use Rattle.bank_words.proofs.marks.pick.Goals as goal

pub returns-else-mark-from-clause-bank : goal.returns-else-mark-from-clause-bank
returns-else-mark-from-clause-bank c = search rules
