use Rattle.fail_stop.specs.Events.{frame_of}
use Rattle.word_table.specs.Tables.{flight_in, seat_place, proc_of}
use Rattle.word_deck.proofs.Steps.{halts_on}
use Rattle.word_deck.proofs.frames.halt_after.Goals as goal

pub halt-requires-clause-next : goal.halt-requires-clause-next
halt-requires-clause-next c =
    halts_on (flight_in c.args.words.now) (proc_of c.make_steps.new.seat) (proc_of c.args.seat.now) c.args.step (frame_of (seat_place c.args.seat.now)) (seat_place c.make_steps.new.seat)
    c.make_steps.ensures.proc c.make_steps.ensures.place c.requires.halt
