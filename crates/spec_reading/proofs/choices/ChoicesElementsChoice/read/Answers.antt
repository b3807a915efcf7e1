use Rattle.spec_reading.proofs.choices.ChoicesElementsChoice.read.Goals as goal

pub returns-clause-fits : goal.returns-clause-fits
returns-clause-fits c = rw (c.of.ensures) (record {
  from = rw (← c.vocabulary.view_is) c.in_ok-from-2.ensures.there;
  few = rw (c.up_to-few.ensures.most) at c.in_ok-wants.ensures.most;
  wants = c.in_ok-wants.ensures.fits;
  up = rw (← c.vocabulary.view_is) c.in_ok-up.ensures.below;
  to = rw (← c.vocabulary.view_is) c.in_ok-to.ensures.there;
})

pub read_source-requires : goal.read_source-requires
read_source-requires c = record { few = c.vocabulary.invariant.confs_count.few }

pub read_procs_set-requires-clause-few : goal.read_procs_set-requires-clause-few
read_procs_set-requires-clause-few c = c.vocabulary.invariant.procs_count.few

pub read_conf_id-requires : goal.read_conf_id-requires
read_conf_id-requires c = record { few = c.vocabulary.invariant.confs_count.few }
