use Rattle.std.proofs.Common.{rules}
use Rattle.lock_deck.proofs.members.Member.halt.Goals as goal

pub returns-clause-flyer : goal.returns-clause-flyer
returns-clause-flyer c = search rules
