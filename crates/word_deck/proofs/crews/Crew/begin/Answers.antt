use Rattle.word_table.specs.Actors.{frame_awaited}
use Rattle.word_table.specs.Tables.{flight_in, proc_of, seat_place}
use Rattle.word_deck.proofs.Places.{spare_there, started_there}
use Rattle.word_deck.proofs.crews.Crew.begin.Goals as goal

pub invariant_of-self-2 : goal.invariant_of-self-2
invariant_of-self-2 g c =
    let crew = c.args.self.now in
    record {
      keeps =
          started_there (proc_of crew.seat) (proc_of c.started.new.seat) (seat_place crew.seat) (seat_place c.started.new.seat) crew.flyer c.start.new.self
          (frame_awaited (flight_in c.args.words.now) (proc_of crew.seat) (seat_place crew.seat)) 1 c.start.ensures c.started.ensures.proc c.in_ok-image.ensures.place crew.keeps
          (λ halted. spare_there (flight_in c.args.words.now) (proc_of crew.seat) (seat_place crew.seat) crew.flyer.spare c.requires.waits halted c.requires.fits.spare_left);
    }
