use Rattle.std.proofs.Common.{add-one}
use Rattle.fail_stop.specs.ScriptFlights.{flight_of}
use Rattle.schedule_replay.specs.Turns.{turn_of_proc, turns_of_procs}
use Rattle.schedule_replay.proofs.Adding.{adds_both}
use Rattle.schedule_replay.proofs.turns.add_procs.Goals as goal

pub loop-p-preserved : goal.loop-p-preserved
loop-p-preserved c =
    let flight = flight_of c.args.spec.now c.args.script.now in
    rw add-one (adds_both _ _ _ (turns_of_procs flight c.args.frame c.loop-p.p) (turn_of_proc flight c.loop-p.p c.args.frame) c.loop-p.invariant c.in_ok-add_turn.ensures)
