use Rattle.std.proofs.Common.{◌+◌, ◌≤◌}
use Rattle.std.specs.Prelude.{All, vec_capacity, vec_len}
use Rattle.lock_deck.specs.Members.{MemberFits}
use Rattle.lock_deck.proofs.lock_flights.start_all.Given as goal

abbrev pub invariant-loop-member : goal.invariant-loop-member
invariant-loop-member g l = record {
  waiting : All (λ member. MemberFits l.mission member.value) l.members.items;
  kept : All (MemberFits l.mission) l.kept.items;
  room : vec_len l.members + vec_len l.kept ≤ vec_capacity l.kept;
}

abbrev pub decreases-loop-member : goal.decreases-loop-member
decreases-loop-member g l = vec_len l.members
