use Rattle.std.proofs.Common.{rules, suc}
use Rattle.fail_stop.specs.Events.{frame_of}
use Rattle.word_table.specs.Tables.{flight_in, proc_of, seat_place}
use Rattle.word_deck.proofs.Steps.{flips_on, halts_then}
use Rattle.word_deck.proofs.frames.make_steps.Goals as goal

pub flip-requires-clause-next : goal.flip-requires-clause-next
flip-requires-clause-next c =
    let m = flight_in c.args.words.now in
    let p = proc_of c.args.seat.now in
    let f = frame_of (seat_place c.args.seat.now) in
    flips_on m (proc_of c.store_words-2.new.seat) p c.args.width f (seat_place c.store_words-2.new.seat) c.store_words-2.ensures.proc c.store_words-2.ensures.place c.requires.width
    (halts_then m p f c.args.step (suc c.args.width) c.requires.halt (search rules))

pub returns-clause-place : goal.returns-clause-place
returns-clause-place c = search rules
