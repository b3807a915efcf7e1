use Rattle.lock_deck.proofs.Lists.{on_ok}
use Rattle.lock_deck.proofs.lock_flights.add_next.Goals as goal

pub returns-in-Some-clause-members : goal.returns-in-Some-clause-members
returns-in-Some-clause-members g c = on_ok c.add_member.result (λ more. more c.args.mission.now c.in-Some.ensures.fits c.requires.members) c.add_member.ensures
