use Rattle.std.proofs.Common.{◌≡◌, ◌+◌, ◌<◌, ℕ, length}
use Rattle.frame_model.specs.Flights.{image_after, image_in}
use Rattle.fail_stop.specs.Events.{At, frame_of}
use Rattle.word_table.specs.Tables.{IsSeatOf, mission_in, seat_place, proc_of, tries_of}
use Rattle.word_deck.proofs.frames.look_at_all.Given as goal

abbrev pub invariant-loop-q : goal.invariant-loop-q
invariant-loop-q l = record {
  seated : IsSeatOf l.words l.seat;
  proc : proc_of l.seat ≡ proc_of l.fn.seat;
  place : seat_place l.seat ≡ At (frame_of (seat_place l.fn.seat)) (1 + l.q);
  tries : tries_of l.seat ≡ tries_of l.fn.seat;
  long : length l.images ≡ 8;
  looked : (p : ℕ) → p < l.q → image_in l.images p ≡ image_after (mission_in l.words).spec (mission_in l.words).script p (frame_of (seat_place l.fn.seat));
}
