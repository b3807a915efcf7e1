use Rattle.std.proofs.Common.{◌≡◌}
use Rattle.word_deck.specs.Flights.{AreCrewsOf, numbers_in}
use Rattle.word_deck.proofs.scopes.fly_kernel.Given as goal

abbrev pub invariant-loop : goal.invariant-loop
invariant-loop g l =
    (goal.iterator-loop g).can_next l.iterator' × (goal.iterator-loop g).is_finite l.iterator'
    × (g.K.KernelActor.mission_of l.kernel ≡ l.shared.mission.now) × g.K.KernelActor.seated l.shared.resources.now.words l.kernel × (g.K.KernelActor.lent l.kernel ≡ g.K.KernelActor.lent l.fn.kernel)
    × AreCrewsOf l.shared.resources.now.words l.own.items × (numbers_in l.own.items ≡ numbers_in l.fn.own.items)
