use Rattle.std.proofs.Common.{rules, ◌≡◌, suc}
use Rattle.event_core.proofs.Overs.{over_told}
use Rattle.event_core.proofs.cores.Core.over.Goals as goal

pub returns-then-self-frames : goal.returns-then-self-frames
returns-then-self-frames c =
    let last : suc c.self.inside.places.frame ≡ c.self.inside.script.now.frames = search rules in
    over_told c.args.self.now c.self.inside.spec.now c.self.inside.script.now c.self.inside.places c.self.inside.stored.items c.self.inside.history.items _ _ _ c.self.view_is c.self.invariant.machine
    (search rules) (search rules) last
