use Rattle.std.proofs.Common.{rules}
use Rattle.bank_words.proofs.images.conf_word.Goals as goal

pub returns-in-Some-clause-back : goal.returns-in-Some-clause-back
returns-in-Some-clause-back c = search rules
