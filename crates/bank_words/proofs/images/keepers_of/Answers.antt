use Rattle.std.proofs.Common.{rules}
use Rattle.bank_words.proofs.images.keepers_of.Goals as goal

pub returns : goal.returns
returns c = search rules
