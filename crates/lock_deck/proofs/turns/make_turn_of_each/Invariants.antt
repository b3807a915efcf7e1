use Rattle.std.proofs.Common.{◌≡◌, length}
use Rattle.std.specs.Prelude.{All}
use Rattle.lock_deck.specs.Members.{MemberFits}
use Rattle.lock_deck.proofs.turns.make_turn_of_each.Given as goal

abbrev pub invariant-loop-place : goal.invariant-loop-place
invariant-loop-place g l = (length l.members ≡ length l.fn.members) × All (MemberFits l.mission) l.members
