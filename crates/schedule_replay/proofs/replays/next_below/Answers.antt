use Rattle.std.proofs.Common.{rules, ◌≡◌, ◌∙◌, ◌<◌, sym}
use Rattle.std.specs.Prelude.{Some}
use Rattle.event_core.specs.Cores.{core_places, core_words, core_flight}
use Rattle.schedule_replay.proofs.Pending.{found_below}
use Rattle.schedule_replay.proofs.replays.next_below.Goals as goal

pub returns-in-Some : goal.returns-in-Some
returns-in-Some c =
    let low : c.loop-p.p < c.args.procs = search rules in
    let told : c.next_of.result ≡ Some c.in-Some.next = search rules in
    sym (found_below (core_flight c.args.core.now) (core_places c.args.core.now) (core_words c.args.core.now) c.args.procs c.loop-p.p c.in-Some.next low c.loop-p.invariant (sym c.next_of.ensures ∙ told))
