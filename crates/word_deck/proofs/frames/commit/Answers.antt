use Rattle.std.proofs.Common.{suc}
use Rattle.fail_stop.specs.Events.{frame_of}
use Rattle.word_table.specs.Tables.{flight_in, proc_of, seat_place}
use Rattle.word_deck.proofs.Steps.{flips_on, never_halts}
use Rattle.word_deck.proofs.frames.commit.Goals as goal

pub flip-requires-clause-next : goal.flip-requires-clause-next
flip-requires-clause-next c =
    let m = flight_in c.args.words.now in
    let p = proc_of c.args.seat.now in
    let f = frame_of (seat_place c.args.seat.now) in
    flips_on m (proc_of c.store_words.new.seat) p c.args.width f (seat_place c.store_words.new.seat) c.store_words.ensures.proc c.store_words.ensures.place c.requires.width
    (never_halts m p f (suc c.args.width) c.requires.halt)
