use Rattle.std.proofs.Common.{rules}
use Rattle.lock_deck.proofs.members.Member.new.Goals as goal

pub returns-clause-unit : goal.returns-clause-unit
returns-clause-unit c = search rules
