use Rattle.std.proofs.Common.{◌≤◌}
use Rattle.std.specs.Prelude.{All, vec_len}
use Rattle.lock_deck.specs.Members.{MemberFits}
use Rattle.lock_deck.proofs.lock_flights.make_members.Given as goal

abbrev pub invariant-loop : goal.invariant-loop
invariant-loop g l = record {
  few : vec_len l.racks ≤ 8;
  members : All (λ member. MemberFits l.mission member.value) l.members.items;
}
