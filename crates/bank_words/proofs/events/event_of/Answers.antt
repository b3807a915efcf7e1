use Rattle.std.proofs.Common.{rules}
use Rattle.bank_words.proofs.events.event_of.Goals as goal

pub returns-in-1-clause-code : goal.returns-in-1-clause-code
returns-in-1-clause-code c = search rules
