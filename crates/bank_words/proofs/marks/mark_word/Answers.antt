use Rattle.std.proofs.Common.{rules}
use Rattle.bank_words.proofs.marks.mark_word.Goals as goal

pub returns-clause-count : goal.returns-clause-count
returns-clause-count c = search rules
