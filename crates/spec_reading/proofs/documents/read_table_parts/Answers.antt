use Rattle.std.proofs.Common.{rules}
use Rattle.spec_reading.proofs.documents.read_table_parts.Goals as goal

pub returns-clause-fits : goal.returns-clause-fits
returns-clause-fits c = rw (c.of.ensures, c.of-2.ensures) (record {
  few_rules = c.in_ok-rules.ensures.few;
  rules = c.in_ok-rules.ensures.fits;
  few_bounds = c.in_ok-bounds.ensures.few;
  bounds = c.in_ok-bounds.ensures.fits;
  start = search rules;
  goal = search rules;
})
