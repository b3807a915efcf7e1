use Rattle.std.proofs.Common.{◌∙◌, sym}
use Rattle.kernel_pair.specs.Machines.{pair_flight, pair_in}
use Rattle.kernel_pair.proofs.FlownOn.{attempted, next_of_unit}
use Rattle.kernel_pair.proofs.rounds.run_unit.Goals as goal

pub loop-event-smaller : goal.loop-event-smaller
loop-event-smaller g c =
    let k = c.loop-event.core in
    attempted k c.attempt.new.core c.in-Some.event (next_of_unit (pair_flight k) k.halt (pair_in k) c.args.u c.in-Some.event c.requires (sym c.next.ensures ∙ c.in-Some.is)) c.attempt.ensures
