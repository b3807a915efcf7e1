use Rattle.std.specs.Prelude.{All}
use Rattle.lock_deck.specs.Members.{MemberFits}
use Rattle.lock_deck.proofs.turns.fly_kernel.Given as goal

abbrev pub invariant-loop : goal.invariant-loop
invariant-loop g l = (goal.iterator-loop g).can_next l.iterator' × (goal.iterator-loop g).is_finite l.iterator' × All (MemberFits l.mission) l.members.items
