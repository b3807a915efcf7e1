use Rattle.spec_reading.proofs.bounds.BoundsElementsBound.read.Goals as goal

pub read_conf_id-requires : goal.read_conf_id-requires
read_conf_id-requires c = record { few = c.vocabulary.invariant.confs_count.few }

pub read_new_target-requires : goal.read_new_target-requires
read_new_target-requires c = record { few = c.vocabulary.invariant.confs_count.few }
