use Rattle.word_deck.proofs.landings.crew_from.Goals as goal

pub returns-in-Some-clause-fits : goal.returns-in-Some-clause-fits
returns-in-Some-clause-fits g c = c.processor.ensures.fits c.args.words.now c.requires.seat

pub returns-in-None-clause-fits : goal.returns-in-None-clause-fits
returns-in-None-clause-fits g c = c.processor-in-None.ensures.fits c.args.words.now c.requires.seat
