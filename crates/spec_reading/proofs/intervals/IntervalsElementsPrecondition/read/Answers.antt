use Rattle.spec_reading.proofs.intervals.IntervalsElementsPrecondition.read.Goals as goal

pub read_conf_id-requires : goal.read_conf_id-requires
read_conf_id-requires c = record { few = c.vocabulary.invariant.confs_count.few }

pub read_interval-requires-clause-few : goal.read_interval-requires-clause-few
read_interval-requires-clause-few c = c.vocabulary.invariant.apps_fit.count.few
