use Rattle.std.proofs.Common.{◌≡◌, ◌+◌, length}
use Rattle.fail_stop.specs.Events.{At, frame_of}
use Rattle.word_table.specs.Tables.{IsSeatOf, mission_in, seat_place, proc_of, tries_of}
use Rattle.word_deck.proofs.frames.store_words.Given as goal

abbrev pub invariant-loop-i : goal.invariant-loop-i
invariant-loop-i l = record {
  seated : IsSeatOf l.words l.seat;
  proc : proc_of l.seat ≡ proc_of l.fn.seat;
  place : seat_place l.seat ≡ At (frame_of (seat_place l.fn.seat)) (length (mission_in l.words).spec.procs + 1 + l.i);
  tries : tries_of l.seat ≡ tries_of l.fn.seat;
}
