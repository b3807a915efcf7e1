use Rattle.kernel_pair.specs.States.{pair_of}
use Rattle.kernel_pair.proofs.machines.PairMachine.holds.Goals as goal

pub returns-clause-holds : goal.returns-clause-holds
returns-clause-holds c =
    let k = c.self.inside in
    let r = c.self.invariant.replay in
    rw (← c.self.view_is) (c.pairs_hold.ensures k.setup.spec.now k.setup.script.now c.self.invariant.facts c.self.invariant.fits k.setup.halt r.first k.events.items (pair_of k.state) r.opening r.schedule)

pub returns-clause-kept : goal.returns-clause-kept
returns-clause-kept c =
    let k = c.self.inside in
    let r = c.self.invariant.replay in
    rw (← c.self.view_is) (c.pairs_keep.ensures k.setup.spec.now k.setup.script.now c.self.invariant.fits k.setup.halt r.first k.events.items (pair_of k.state) r.opening r.schedule)
