use Rattle.word_deck.proofs.landings.fly_seat.Goals as goal

pub fly_crew-requires-clause-fits : goal.fly_crew-requires-clause-fits
fly_crew-requires-clause-fits g c = c.processor-crew.ensures.fits c.args.words.now c.requires.seat
