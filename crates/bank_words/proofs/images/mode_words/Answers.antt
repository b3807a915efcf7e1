use Rattle.std.proofs.Common.{rules}
use Rattle.bank_words.proofs.images.mode_words.Goals as goal

pub returns-in-Stable-clause-words : goal.returns-in-Stable-clause-words
returns-in-Stable-clause-words c = search rules
