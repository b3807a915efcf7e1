use Rattle.fail_stop.specs.ScriptFlights.{flight_of}
use Rattle.schedule_replay.proofs.Adding.{adds_frame}
use Rattle.schedule_replay.proofs.turns.add_frames.Goals as goal

pub loop-frame-preserved : goal.loop-frame-preserved
loop-frame-preserved c =
    adds_frame (flight_of c.args.spec.now c.args.script.now) c.loop-frame.frame c.loop-frame.list.items c.add_procs.new.list.items c.add_kernel.new.list.items
    c.loop-frame.invariant c.in_ok-add_procs.ensures c.in_ok-add_kernel.ensures
