use Rattle.std.proofs.Common.{rules}
use Rattle.spec_reading.proofs.demands.DemandsNamedElementsDemandByName.read.Goals as goal

pub returns-clause-fits : goal.returns-clause-fits
returns-clause-fits c = rw (c.of.ensures) (record {
  name = c.in_ok-name.ensures.fresh;
  from = search rules;
  few = search rules;
  wants = c.in_ok-wants.ensures.fits;
  asked = c.in_ok-up.ensures.fits;
})

pub read_confs_set-requires-clause-few : goal.read_confs_set-requires-clause-few
read_confs_set-requires-clause-few c = c.vocabulary.invariant.confs_count.few
