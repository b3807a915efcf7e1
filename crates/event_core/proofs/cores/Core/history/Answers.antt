use Rattle.std.proofs.Common.{arith}
use Rattle.event_core.proofs.Histories.{history_few, replayed_by}
use Rattle.event_core.proofs.cores.Core.history.Goals as goal

pub returns-clause-schedule : goal.returns-clause-schedule
returns-clause-schedule c =
    replayed_by c.args.self.now c.self.inside.spec.now c.self.inside.script.now c.self.inside.places c.self.inside.stored.items c.self.inside.history.items c.self.view_is c.self.invariant.machine.replay

pub returns-clause-few : goal.returns-clause-few
returns-clause-few c =
    let machine = c.self.invariant.machine in
    let most = history_few c.self.inside.spec.now c.self.inside.script.now c.self.inside.history.items _ _ machine.facts machine.fits machine.replay in
    omega (arith, most)
