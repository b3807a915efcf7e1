use Rattle.std.proofs.Common.{◌∙◌}
use Rattle.std.proofs.lemmas.List.{length-set}
use Rattle.std.proofs.lemmas.List.Elements.{All-set}
use Rattle.lock_deck.specs.Members.{MemberFits}
use Rattle.lock_deck.proofs.turns.make_turn_of_each.Goals as goal

pub loop-place-preserved : goal.loop-place-preserved
loop-place-preserved g c = (
  length-set c.loop-place.members c.loop-place.place c.make_turn.new.member ∙ c.loop-place.invariant.0,
  All-set (MemberFits c.args.mission.now) c.loop-place.members c.loop-place.place c.make_turn.new.member c.make_turn.ensures.fits c.loop-place.invariant.1,
)
