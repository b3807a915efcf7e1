use Rattle.spec_reading.proofs.factors.FactorsNamedElementsFactorByName.read.Goals as goal

pub returns-clause-fits : goal.returns-clause-fits
returns-clause-fits c = rw (c.of.ensures, c.into_items.ensures) (record {
  name = c.in_ok-name-2.ensures.fresh;
  count = record { enough = c.in_ok-values.ensures.least; few = c.in_ok-values.ensures.most };
  values = c.in_ok-values.ensures.fits;
})
