use Rattle.std.proofs.Common.{rules}
use Rattle.lock_deck.proofs.members.Member.follow.Goals as goal

pub returns-in-Halted-clause-halts : goal.returns-in-Halted-clause-halts
returns-in-Halted-clause-halts c = search rules

pub returns-in-Halted-clause-spare : goal.returns-in-Halted-clause-spare
returns-in-Halted-clause-spare c = search rules
