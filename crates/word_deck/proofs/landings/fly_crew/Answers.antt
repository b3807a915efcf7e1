use Rattle.std.proofs.Common.{◌∙◌, subst}
use Rattle.fail_stop.specs.Ends.{IsDone}
use Rattle.word_table.specs.Tables.{flight_in, seat_place}
use Rattle.word_deck.proofs.landings.fly_crew.Goals as goal

pub returns-in-Finished : goal.returns-in-Finished
returns-in-Finished g c = record {
  seated = c.turn.ensures.fits.seated;
  proc = c.turn.ensures.proc ∙ c.loop.invariant.3;
  done = subst (λ p. IsDone (flight_in c.args.words.now) p (seat_place c.turn.new.self.seat)) (c.loop.invariant.3) (c.turn.ensures.finished.0 c.in-Finished.is);
}
