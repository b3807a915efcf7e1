use Rattle.spec_reading.proofs.choices.WantsElementsWant.read.Goals as goal

pub read_new_factor-requires : goal.read_new_factor-requires
read_new_factor-requires c = record { few = c.vocabulary.invariant.factors_count.few }
