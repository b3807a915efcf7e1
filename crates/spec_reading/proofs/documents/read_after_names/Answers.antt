use Rattle.std.proofs.Common.{rules}
use Rattle.spec_reading.proofs.documents.read_after_names.Goals as goal

pub returns-clause-fits : goal.returns-clause-fits
returns-clause-fits c = rw (c.of.ensures) (record {
  table = search rules;
  limits = search rules;
  few_demands = c.in_ok-demands.ensures.few;
  demands = c.in_ok-demands.ensures.fits;
})
