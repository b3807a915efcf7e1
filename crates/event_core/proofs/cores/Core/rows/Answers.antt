use Rattle.std.proofs.Common.{rules}
use Rattle.event_core.proofs.Counting.{rows_counted}
use Rattle.event_core.proofs.Histories.{replayed_by}
use Rattle.event_core.proofs.cores.Core.rows.Goals as goal

pub returns-clause-noted : goal.returns-clause-noted
returns-clause-noted c =
    let replay = replayed_by c.args.self.now c.self.inside.spec.now c.self.inside.script.now c.self.inside.places c.self.inside.stored.items c.self.inside.history.items c.self.view_is c.self.invariant.machine.replay in
    rows_counted c.args.self.now c.self.inside.spec.now c.self.inside.script.now c.self.inside.places c.self.inside.stored.items c.self.inside.history.items _ c.self.view_is c.self.invariant.machine.facts (search rules) replay
