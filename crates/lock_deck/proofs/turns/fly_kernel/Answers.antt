use Rattle.std.proofs.Common.{length}
use Rattle.lock_deck.proofs.Lists.{lent}
use Rattle.lock_deck.specs.Members.{MemberFits}
use Rattle.lock_deck.proofs.turns.fly_kernel.Goals as goal

pub loop-preserved : goal.loop-preserved
loop-preserved g c = (
  tt,
  tt,
  lent (MemberFits c.args.mission.now) c.loop.members.len (length c.make_turn_of_each.new.members) c.make_turn_of_each.new.members c.loop.members.items c.make_turn_of_each.ensures.fits c.loop.invariant.2,
)
