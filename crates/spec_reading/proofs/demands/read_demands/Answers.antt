use Rattle.spec_reading.proofs.demands.read_demands.Goals as goal

pub returns-clause-fits : goal.returns-clause-fits
returns-clause-fits c = rw (c.into_items.ensures) c.in_ok-demands.ensures.fits
