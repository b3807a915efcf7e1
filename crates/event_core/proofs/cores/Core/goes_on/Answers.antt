use Rattle.event_core.proofs.Snapshots.{goes_on_by}
use Rattle.event_core.proofs.cores.Core.goes_on.Goals as goal

pub returns : goal.returns
returns c =
    goes_on_by c.args.self.now c.self.inside.spec.now c.self.inside.script.now c.self.inside.places c.self.inside.stored.items c.self.inside.history.items _ _ c.self.view_is c.self.invariant.machine
    c.machine_goes_on.ensures
