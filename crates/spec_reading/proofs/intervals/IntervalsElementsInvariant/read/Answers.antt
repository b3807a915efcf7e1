use Rattle.spec_reading.proofs.intervals.IntervalsElementsInvariant.read.Goals as goal

pub read_source-requires : goal.read_source-requires
read_source-requires c = record { few = c.vocabulary.invariant.confs_count.few }

pub read_interval-requires-clause-few : goal.read_interval-requires-clause-few
read_interval-requires-clause-few c = c.vocabulary.invariant.apps_fit.count.few
