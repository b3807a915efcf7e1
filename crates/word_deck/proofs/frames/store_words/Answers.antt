use Rattle.std.proofs.Common.{rules, ◌≡◌, ◌+◌, length, pos, slice_index_or}
use Rattle.bank_words.specs.Numbers.{encode}
use Rattle.fail_stop.specs.Events.{frame_of}
use Rattle.word_table.specs.Tables.{flight_in, mission_in, seat_place, proc_of}
use Rattle.word_deck.proofs.Steps.{stores_on, word_drafted}
use Rattle.word_deck.proofs.frames.store_words.Goals as goal

pub store-requires-clause-next : goal.store-requires-clause-next
store-requires-clause-next c =
    stores_on (flight_in c.args.words.now) (proc_of c.loop-i.seat) (proc_of c.args.seat.now) c.loop-i.i c.args.count (frame_of (seat_place c.args.seat.now)) (seat_place c.loop-i.seat)
    c.loop-i.invariant.proc c.loop-i.invariant.place c.loop-i-test.true c.requires.count c.requires.late

pub store-requires-clause-word : goal.store-requires-clause-word
store-requires-clause-word c =
    let word : c.encode.result ≡ encode (slice_index_or c.args.image.now c.loop-i.i (pos 0)) = search rules in
    word_drafted (mission_in c.args.words.now).spec (mission_in c.args.words.now).script (proc_of c.loop-i.seat) (proc_of c.args.seat.now) (frame_of (seat_place c.args.seat.now))
    (length (mission_in c.args.words.now).spec.procs + 1 + c.loop-i.i) c.loop-i.i (seat_place c.loop-i.seat) c.args.image.now c.encode.result
    c.requires.image c.loop-i.invariant.proc c.loop-i.invariant.place word
