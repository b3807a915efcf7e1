use Rattle.std.proofs.Common.{rules}
use Rattle.spec_reading.proofs.documents.read_limit_parts.Goals as goal

pub returns-clause-fits : goal.returns-clause-fits
returns-clause-fits c = rw (c.of.ensures, c.of-2.ensures) (record {
  few_invariants = c.in_ok-invariants.ensures.few;
  invariants = c.in_ok-invariants.ensures.fits;
  few_preconditions = c.in_ok-preconditions.ensures.few;
  preconditions = c.in_ok-preconditions.ensures.fits;
  assumed = search rules;
})
